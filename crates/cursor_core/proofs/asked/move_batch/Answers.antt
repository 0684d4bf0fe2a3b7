use Rattle.std.proofs.Common.{◌∙◌, ap, sym, subst, map, ℕ, length, ◌≤◌}
use Rattle.std.specs.Option.{option_copied_mut}
use Rattle.lru.specs.LruCache.{LruCache}
use Rattle.cursor_core.specs.declared.state.Cursor.{Cursor}
use Rattle.cursor_core.specs.declared.asked.Held.{Held}
use Rattle.cursor_core.specs.Shown.{Gives, entry_shown}
use Rattle.cursor_core.proofs.Entries.{is-shown, never-there, set-same, moved}
use Rattle.cursor_core.proofs.asked.move_batch.Goals as goal

pub unreachable-requires : goal.unreachable-requires
unreachable-requires c =
    never-there c.args.id c.requires.0 c.args.cache.now.entries (sym c.peek_mut.follows ∙ ap option_copied_mut c.in_default.is) c.requires.1

pub take-requires : goal.take-requires
take-requires c =
    subst (λ (x : Cursor). c.args.count ≤ length x.rest)
    (is-shown c.args.id c.in-Some.held.now c.requires.0 c.args.cache.now.entries (sym c.in-Some.ensures.value) c.requires.1) c.requires.2

pub returns-in_default-take-clause-err : goal.returns-in_default-take-clause-err
returns-in_default-take-clause-err c =
    let was = c.in-Some.held.now in
    ap (map entry_shown)
    (set-same c.args.id was (record was { rest = c.take.new.self }) c.args.cache.now.entries (sym c.in-Some.ensures.value)
    (λ i. record was { rest = c.in_default-take.ensures.err i }))

pub returns-clause-ok : goal.returns-clause-ok
returns-clause-ok c =
    let was = c.in-Some.held.now in
    subst (λ (cache : LruCache ℕ Held). Gives c.args.id c.args.count c.args.latest c.in-Ok.batch (map entry_shown c.args.cache.now.entries)
    (map entry_shown cache.entries)) (sym c.promote.ensures.entries)
    (moved c.args.id c.args.count c.args.latest was (record was { rest = c.take.new.self; last = c.args.latest }) c.in-Ok.batch
    c.args.cache.now.entries c.len-count.ensures.valid.0 (sym c.in-Some.ensures.value) c.in-Ok.ensures.taken
    (λ i. record was { rest = c.in-Ok.ensures.left i; last = c.args.latest }))
