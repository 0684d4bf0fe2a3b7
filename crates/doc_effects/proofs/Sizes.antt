-- How many documents a count is of.
use Rattle.std.proofs.Common.{◌≡◌, ℕ, ◌==◌, Bool, true, false, List, length, drop, min, refl, ap, sym, ◌∙◌}
use Rattle.std.proofs.lemmas.List.{length-take, length-drop}
use Rattle.filter_syntax.specs.Meaning.{Doc}
use Rattle.doc_model.specs.Step.{limited}
use Rattle.doc_effects.specs.Replies.{counted}

pub counted_is : (skip limit : ℕ) (docs : List Doc) → counted skip limit (length docs) ≡ length (limited skip limit docs)
counted_is skip limit docs = cases (limit == 0) refl
  where
    cases : (b : Bool) → (limit == 0) ≡ b → counted skip limit (length docs) ≡ length (limited skip limit docs)
    cases true e = rw e (sym (length-drop skip docs))
    cases false e = rw e (ap (min limit) (sym (length-drop skip docs)) ∙ sym (length-take limit (drop skip docs)))
