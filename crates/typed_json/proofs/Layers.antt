-- One level of a JSON, out and in.
use Rattle.std.proofs.Common.{◌≡◌, ◌∙◌, ℕ, Bool, true, false, Option, None, Some, option_and_then, List, refl, sym, ap}
use Rattle.std.specs.Prelude.{ℤ, if◌then◌else◌}
use denote.Hole.Carrier.{out}
use Rattle.bson_values.specs.declared.pairs.Pair.{Pair}
use Rattle.jsonb_contain.specs.declared.value.Json.{Json, roll-Json}
use Rattle.jsonb_contain.specs.declared.value.Json.TheViews.{out-Json, roll-out-Json}
use Rattle.jsonb_contain.specs.declared.value.Json.TheOpen.{Json-F}
use Rattle.jsonb_contain.specs.declared.value.Json.TheVariants as json
use Rattle.typed_json.specs.Leaf.{text_in, whole_in, items_in, pairs_in, text_of, whole_of, items_of, pairs_of}

-- ---- out

pub out_text : (text : List ℕ) → out-Json (json.Text text) ≡ Json-F.Text text
unfolding out-Json out
out_text text = refl

pub out_null : out-Json json.Null ≡ Json-F.Null
unfolding out-Json out
out_null = refl

pub out_bool : (truth : Bool) → out-Json (json.Bool truth) ≡ Json-F.Bool truth
unfolding out-Json out
out_bool truth = refl

pub out_whole : (n : ℤ) → out-Json (json.Whole n) ≡ Json-F.Whole n
unfolding out-Json out
out_whole n = refl

pub text_is : (text : List ℕ) → text_of (json.Text text) ≡ Some text
text_is text = ap text_in (out_text text)

pub whole_is : (n : ℤ) → whole_of (json.Whole n) ≡ Some n
whole_is n = ap whole_in (out_whole n)

pub pairs_is : (pairs : List (Pair Json)) → pairs_of (json.Object pairs) ≡ Some pairs
pairs_is pairs = ap pairs_in (json.outs-Object pairs)

pub items_is : (items : List Json) → items_of (json.Array items) ≡ Some items
items_is items = ap items_in (json.outs-Array items)

-- ---- in

layer_text : (layer : Json-F Json) (text : List ℕ) → text_in layer ≡ Some text → roll-Json layer ≡ json.Text text
layer_text (Json-F.Text other) text is = let same : other ≡ text = cc is in ap (λ (t : List ℕ). roll-Json (Json-F.Text t)) same
    ∙ json.rolls-Text text
layer_text Json-F.Null text is = absurd (cc is)
layer_text (Json-F.Bool truth) text is = absurd (cc is)
layer_text (Json-F.Whole n) text is = absurd (cc is)
layer_text (Json-F.Array items) text is = absurd (cc is)
layer_text (Json-F.Object pairs) text is = absurd (cc is)

layer_whole : (layer : Json-F Json) (n : ℤ) → whole_in layer ≡ Some n → roll-Json layer ≡ json.Whole n
layer_whole (Json-F.Whole other) n is = let same : other ≡ n = cc is in ap (λ (m : ℤ). roll-Json (Json-F.Whole m)) same ∙ json.rolls-Whole n
layer_whole Json-F.Null n is = absurd (cc is)
layer_whole (Json-F.Bool truth) n is = absurd (cc is)
layer_whole (Json-F.Text text) n is = absurd (cc is)
layer_whole (Json-F.Array items) n is = absurd (cc is)
layer_whole (Json-F.Object pairs) n is = absurd (cc is)

layer_items : (layer : Json-F Json) (items : List Json) → items_in layer ≡ Some items → roll-Json layer ≡ json.Array items
layer_items (Json-F.Array others) items is = let same : others ≡ items = cc is in ap (λ (l : List Json). roll-Json (Json-F.Array l)) same
    ∙ json.rolls-Array items
layer_items Json-F.Null items is = absurd (cc is)
layer_items (Json-F.Bool truth) items is = absurd (cc is)
layer_items (Json-F.Whole n) items is = absurd (cc is)
layer_items (Json-F.Text text) items is = absurd (cc is)
layer_items (Json-F.Object pairs) items is = absurd (cc is)

layer_pairs : (layer : Json-F Json) (pairs : List (Pair Json)) → pairs_in layer ≡ Some pairs → roll-Json layer ≡ json.Object pairs
layer_pairs (Json-F.Object others) pairs is = let same : others ≡ pairs = cc is in ap
    (λ (ps : List (Pair Json)). roll-Json (Json-F.Object ps)) same ∙ json.rolls-Object pairs
layer_pairs Json-F.Null pairs is = absurd (cc is)
layer_pairs (Json-F.Bool truth) pairs is = absurd (cc is)
layer_pairs (Json-F.Whole n) pairs is = absurd (cc is)
layer_pairs (Json-F.Array items) pairs is = absurd (cc is)
layer_pairs (Json-F.Text text) pairs is = absurd (cc is)

pub text_back : (it : Json) (text : List ℕ) → text_of it ≡ Some text → it ≡ json.Text text
text_back it text is = sym (roll-out-Json it) ∙ layer_text (out-Json it) text is

pub whole_back : (it : Json) (n : ℤ) → whole_of it ≡ Some n → it ≡ json.Whole n
whole_back it n is = sym (roll-out-Json it) ∙ layer_whole (out-Json it) n is

pub items_back : (it : Json) (items : List Json) → items_of it ≡ Some items → it ≡ json.Array items
items_back it items is = sym (roll-out-Json it) ∙ layer_items (out-Json it) items is

pub pairs_back : (it : Json) (pairs : List (Pair Json)) → pairs_of it ≡ Some pairs → it ≡ json.Object pairs
pairs_back it pairs is = sym (roll-out-Json it) ∙ layer_pairs (out-Json it) pairs is

-- ---- steps

-- both steps gave something
pub both_gave : {A B : Type 0} (one : Option A) (step : A → Option B) (last : B) → option_and_then step one ≡ Some last
    → (mid : A) × (one ≡ Some mid) × (step mid ≡ Some last)
both_gave None step last is = absurd (cc is)
both_gave (Some mid) step last is = (mid, refl, is)

-- a test that gave something was passed
pub passed : {A : Type 0} (test : Bool) (given : Option A) (last : A) → (if test then given else None) ≡ Some last
    → (test ≡ true) × (given ≡ Some last)
passed true given last is = (refl, is)
passed false given last is = absurd (cc is)
