-- What a condition says, variant by variant.
use Rattle.std.proofs.Common.{◌≡◌, ◌∙◌, ℕ, Bool, List, sym, ap}
use Rattle.std.specs.Str.{bytes_eq}
use Rattle.std.specs.List.{list_any, list_all}
use Rattle.std.proofs.lemmas.List.Folds.{list_all-map}
use Rattle.std_words.proofs.Parts.{any-mapped}
use Rattle.jsonb_contain.specs.Containment.{at_key, met_in, met}
use Rattle.jsonb_contain.specs.declared.cond.Cond.{Cond}
use Rattle.jsonb_contain.specs.declared.cond.Cond.TheOpen.{Cond-F}
use Rattle.jsonb_contain.specs.declared.cond.Cond.TheFolds.{fold-roll-Cond}
use Rattle.jsonb_contain.specs.declared.cond.Cond.TheVariants as cond_of
use Rattle.jsonb_contain.specs.declared.value.Json.{Json, out-Json}

pub by_key : (wanted bytes : List ℕ) (row : Json) → met (cond_of.KeyIs wanted) bytes row ≡ bytes_eq bytes wanted
by_key wanted bytes row =
    ap (λ (c : Cond). met c bytes row) (sym (cond_of.rolls-KeyIs wanted))
    ∙ ap (λ (m : List ℕ → Json → Bool). m bytes row) (fold-roll-Cond (List ℕ → Json → Bool) met_in (Cond-F.KeyIs wanted))

pub at_name : (name : List ℕ) (one : Json) (bytes : List ℕ) (row : Json)
    → met (cond_of.AtKey name one) bytes row ≡ at_key name one (out-Json row)
at_name name one bytes row =
    ap (λ (c : Cond). met c bytes row) (sym (cond_of.rolls-AtKey name one))
    ∙ ap (λ (m : List ℕ → Json → Bool). m bytes row) (fold-roll-Cond (List ℕ → Json → Bool) met_in (Cond-F.AtKey name one))

pub any_of : (conds : List Cond) (bytes : List ℕ) (row : Json)
    → met (cond_of.Any conds) bytes row ≡ list_any (λ (c : Cond). met c bytes row) conds
any_of conds bytes row =
    ap (λ (c : Cond). met c bytes row) (sym (cond_of.rolls-Any conds))
    ∙ ap (λ (m : List ℕ → Json → Bool). m bytes row) (fold-roll-Cond (List ℕ → Json → Bool) met_in (Cond-F.Any conds))
    ∙ any-mapped (λ (c : List ℕ → Json → Bool). c bytes row) met conds

pub all_of : (conds : List Cond) (bytes : List ℕ) (row : Json)
    → met (cond_of.All conds) bytes row ≡ list_all (λ (c : Cond). met c bytes row) conds
all_of conds bytes row =
    ap (λ (c : Cond). met c bytes row) (sym (cond_of.rolls-All conds))
    ∙ ap (λ (m : List ℕ → Json → Bool). m bytes row) (fold-roll-Cond (List ℕ → Json → Bool) met_in (Cond-F.All conds))
    ∙ list_all-map (λ (c : List ℕ → Json → Bool). c bytes row) met conds
