-- What is inside, and what a condition says, one level at a time.
use Rattle.std.proofs.Common.{◌≡◌, ℕ, Bool, List, refl, sym, ap, ◌∙◌}
use Rattle.std.specs.Str.{bytes_eq}
use Rattle.std.specs.List.{list_any, list_all}
use Rattle.std.proofs.lemmas.List.Folds.{list_all-map}
use Rattle.std_words.proofs.Parts.{any-mapped}
use Rattle.bson_values.specs.declared.pairs.Pair.{Pair}
use Rattle.jsonb_contain.specs.Rising.{value_at}
use Rattle.jsonb_contain.specs.Containment.{same_scalar, passes, inside_in, inside, at_key, met_in, met}
use Rattle.jsonb_contain.specs.declared.cond.Cond.{Cond}
use Rattle.jsonb_contain.specs.declared.cond.Cond.TheVariants as cond_of
use Rattle.jsonb_contain.specs.declared.cond.Cond.TheFolds.{fold-roll-Cond}
use Rattle.jsonb_contain.specs.declared.cond.Cond.TheOpen.{Cond-F}
use Rattle.jsonb_contain.specs.declared.value.Json.{Json, out-Json, map-Json}
use Rattle.jsonb_contain.specs.declared.value.Json.TheOpen.{Json-F}
use Rattle.jsonb_contain.specs.declared.value.Json.TheFolds.{fold_out-Json}

-- the level of what is inside, beside that of what has it
abbrev pub inside_layer : Json-F Json → Json-F Json → Bool
inside_layer (Json-F.Object pairs) (Json-F.Object all) =
    list_all (λ (pair : Pair Json). passes (λ (it : Json). inside it pair.value) (value_at pair.name all)) pairs
inside_layer (Json-F.Array items) (Json-F.Array all) = list_all (λ (item : Json). list_any (λ (it : Json). inside it item) all) items
inside_layer one all = same_scalar one all

abbrev within : Json → Json → Bool
within one all = inside all one

layer_is : (one all : Json-F Json) → inside_in (map-Json Json (Json → Bool) within one) all ≡ inside_layer one all
layer_is (Json-F.Object pairs) (Json-F.Object all) =
    list_all-map (λ (pair : Pair (Json → Bool)). passes pair.value (value_at pair.name all))
    (λ (pair : Pair Json). record { name = pair.name; value = within pair.value }) pairs
layer_is (Json-F.Array items) (Json-F.Array all) = list_all-map (λ (item : Json → Bool). list_any item all) within items
layer_is one all = refl

pub inside_is : (all one : Json) → inside all one ≡ inside_layer (out-Json one) (out-Json all)
inside_is all one =
    ap (λ (test : Json → Bool). test all) (fold_out-Json (Json → Bool) (λ layer it. inside_in layer (out-Json it)) one)
    ∙ layer_is (out-Json one) (out-Json all)

-- ---- conditions, variant by variant

pub met_key : (wanted bytes : List ℕ) (row : Json) → met (cond_of.KeyIs wanted) bytes row ≡ bytes_eq bytes wanted
met_key wanted bytes row =
    ap (λ (c : Cond). met c bytes row) (sym (cond_of.rolls-KeyIs wanted))
    ∙ ap (λ (m : List ℕ → Json → Bool). m bytes row) (fold-roll-Cond (List ℕ → Json → Bool) met_in (Cond-F.KeyIs wanted))

pub met_at : (name : List ℕ) (one : Json) (bytes : List ℕ) (row : Json)
    → met (cond_of.AtKey name one) bytes row ≡ at_key name one (out-Json row)
met_at name one bytes row =
    ap (λ (c : Cond). met c bytes row) (sym (cond_of.rolls-AtKey name one))
    ∙ ap (λ (m : List ℕ → Json → Bool). m bytes row) (fold-roll-Cond (List ℕ → Json → Bool) met_in (Cond-F.AtKey name one))

pub met_any : (conds : List Cond) (bytes : List ℕ) (row : Json)
    → met (cond_of.Any conds) bytes row ≡ list_any (λ (c : Cond). met c bytes row) conds
met_any conds bytes row =
    ap (λ (c : Cond). met c bytes row) (sym (cond_of.rolls-Any conds))
    ∙ ap (λ (m : List ℕ → Json → Bool). m bytes row) (fold-roll-Cond (List ℕ → Json → Bool) met_in (Cond-F.Any conds))
    ∙ any-mapped (λ (c : List ℕ → Json → Bool). c bytes row) met conds

pub met_all : (conds : List Cond) (bytes : List ℕ) (row : Json)
    → met (cond_of.All conds) bytes row ≡ list_all (λ (c : Cond). met c bytes row) conds
met_all conds bytes row =
    ap (λ (c : Cond). met c bytes row) (sym (cond_of.rolls-All conds))
    ∙ ap (λ (m : List ℕ → Json → Bool). m bytes row) (fold-roll-Cond (List ℕ → Json → Bool) met_in (Cond-F.All conds))
    ∙ list_all-map (λ (c : List ℕ → Json → Bool). c bytes row) met conds
