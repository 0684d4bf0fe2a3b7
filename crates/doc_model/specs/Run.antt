-- Operations one after another.
use Rattle.std.specs.Prelude.{ℕ, ◌≡◌, List, [], ◌∷◌, map}
use Rattle.history_lock.specs.declared.entry.Who.{Who}
use Rattle.doc_model.specs.declared.op.Op.{Op}
use Rattle.doc_model.specs.declared.op.OpReply.{OpReply}
use Rattle.doc_model.specs.Store.{Store}
use Rattle.doc_model.specs.Step.{step}

-- an operation, whose it is, its moment in milliseconds since 1970-01-01 00:00 UTC, and its reply
pub record Done : Type 0 where
  pub who : Who
  pub now : ℕ
  pub op : Op
  pub reply : OpReply

-- whose they are
abbrev pub whos : List Done → List Who
whos = map (λ (d : Done). d.who)

-- each is a step from the store that those before it left
abbrev pub run : Store → List Done → Store → Type 0
run s [] t = t ≡ s
run s (d ∷ ds) t = (mid : Store) × step d.who d.now d.op s d.reply mid × run mid ds t
