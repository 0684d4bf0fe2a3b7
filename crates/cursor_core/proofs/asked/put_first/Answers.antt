use Rattle.std.proofs.Common.{◌∙◌, ◌<◌, ◌^◌, ap, subst, map, ℕ}
use Rattle.lru.specs.LruCache.{LruCache}
use Rattle.cursor_core.specs.declared.asked.Held.{Held}
use Rattle.cursor_core.specs.Shown.{entry_shown}
use Rattle.cursor_core.proofs.Entries.{put-first}
use Rattle.cursor_core.proofs.asked.put_first.Goals as goal

pub returns-in-Ok-clause-ok : goal.returns-in-Ok-clause-ok
returns-in-Ok-clause-ok c =
    ap (λ (cache : LruCache ℕ Held). map entry_shown cache.entries) c.in-Ok.ensures.entries
    ∙ put-first c.args.cache.now c.args.id c.args.held c.requires.cap
    (subst (λ n. n < 2 ^ 63) c.len-count.ensures.len c.len-count.ensures.fits) c.requires.absent
