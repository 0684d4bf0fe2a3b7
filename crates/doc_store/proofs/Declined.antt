-- An insert that is replied before its call.
use Rattle.std.proofs.Common.{◌≡◌, ◌⊎◌, inl, inr, ℕ, refl}
use Rattle.std.specs.Prelude.{Option, Some}
use Rattle.doc_model.specs.declared.op.OpReply.{OpReply}
use Rattle.doc_model.specs.declared.op.OpReply.TheVariants.{Inserted, Selected, Counted, Values, Updated, Deleted, Modified, Refused, Fault, NoMemory}
use Rattle.doc_effects.specs.Replies.{Declines}

pub declined : (words : Option ℕ) (reply : OpReply) → Declines words reply
    → (reply ≡ NoMemory) ⊎ ((kind : ℕ) × (words ≡ Some kind) × (reply ≡ Refused kind))
declined words NoMemory is = inl refl
declined words (Refused kind) is = inr (kind, is, refl)
declined words Inserted is = absurd is
declined words (Selected docs) is = absurd is
declined words (Counted n) is = absurd is
declined words (Values values) is = absurd is
declined words Fault is = absurd is
declined words (Updated matched changed upserted) is = absurd is
declined words (Deleted n) is = absurd is
declined words (Modified existed upserted value) is = absurd is
