-- Cutting a text at its first dot.
use Rattle.std.proofs.Common.{◌≡◌, ◌<◌, ℕ, ◌+◌, Bool, true, false, not, cond, get_or, List, [], ◌∷◌, length, Option, Some, None, refl, sym, ap, ◌∙◌, arith}
use Rattle.std.specs.Prelude.{IfSome, IfNone, ◌==◌, count_by}
use Rattle.std.proofs.lemmas.List.{length-append}
use Rattle.std.proofs.lemmas.List.Sums.{split_at_first}
use Rattle.std.specs.List.{position_or_len, before_first, after_first, slice_split, onto_first}
use Rattle.std.proofs.lemmas.Str.Pattern.{IsSplitOnceResult, split_once_first}
use Rattle.std.proofs.lemmas.List.Splits.{slice_split_first, slice_split-cons_no, length-slice_split}
use denote.Bor.{Bor}
use Rattle.doc_paths.specs.Paths.{parts}

abbrev Cut : Type 0
Cut = Option (Bor (List ℕ) × Bor (List ℕ))

abbrev is_dot : ℕ → Bool
is_dot byte = byte == 46

no_dot : (text : List ℕ) → position_or_len is_dot text ≡ length text → slice_split is_dot text ≡ text ∷ []
no_dot [] none = refl
no_dot (byte ∷ text) none = by (is_dot byte) refl (no_dot text)
  where
    by : (b : Bool) → is_dot byte ≡ b → (position_or_len is_dot text ≡ length text → slice_split is_dot text ≡ text ∷ []) → slice_split is_dot (byte ∷ text) ≡ (byte ∷ text) ∷ []
    by true is further = absurd (omega (arith, sym (ap (λ (b : Bool). cond (not b) (1 + position_or_len is_dot text) 0) is) ∙ none))
    by false is further =
        slice_split-cons_no is_dot byte text is ∙ ap (onto_first byte) (further (omega (arith, sym (ap (λ (b : Bool). cond (not b) (1 + position_or_len is_dot text) 0) is) ∙ none)))

pub uncut : (text : List ℕ) (r : Cut) → IsSplitOnceResult 46 text r → IfNone r (parts text ≡ text ∷ [])
uncut text None is = no_dot text (split_once_first 46 text None is (omega arith))
uncut text (Some it) is = tt

pub cut_at : (text : List ℕ) (r : Cut) → IsSplitOnceResult 46 text r → IfSome r (λ it. parts text ≡ it.0.now ∷ parts it.1.now)
cut_at text None is = tt
cut_at text (Some it) is =
    let h = split_once_first 46 text (Some it) is (omega arith) in
    slice_split_first is_dot text 0 h.0 ∙ ap (λ (first : List ℕ). first ∷ parts (after_first is_dot text)) (sym h.1) ∙ ap (λ (rest : List ℕ). it.0.now ∷ parts rest) (sym h.2)

pub shorter_after : (text : List ℕ) (r : Cut) → IsSplitOnceResult 46 text r → IfSome r (λ it. length it.1.now < length text)
shorter_after text None is = tt
shorter_after text (Some it) is =
    let h = split_once_first 46 text (Some it) is (omega arith) in
    let whole = split_at_first is_dot text 0 h.0 in
    omega (arith, ap length h.2, ap length whole, length-append (before_first is_dot text) (get_or text (position_or_len is_dot text) 0 ∷ after_first is_dot text))

pub parts_counted : (text : List ℕ) → length (parts text) ≡ count_by is_dot text + 1
parts_counted text = length-slice_split is_dot text
