use Rattle.std.proofs.Common.{◌∙◌, ap, map, ℕ}
use Rattle.lru.specs.LruCache.{LruCache}
use Rattle.cursor_core.specs.declared.asked.Held.{Held}
use Rattle.cursor_core.specs.Shown.{entry_shown}
use Rattle.cursor_core.proofs.Entries.{front}
use Rattle.cursor_core.proofs.asked.drop_last.Goals as goal

pub returns-clause-left : goal.returns-clause-left
returns-clause-left c =
    ap (λ (cache : LruCache ℕ Held). map entry_shown cache.entries) c.pop_lru.ensures.entries ∙ front c.args.cache.now.entries
