-- Containment of JSON, and conditions on rows: PostgreSQL manual, "JSON Types", "jsonb Containment and Existence".
use Rattle.std.specs.Prelude.{ℕ, Bool, true, false, ◌||◌, List, Option, Some, None}
use Rattle.std.specs.Ordering.{int_eq}
use Rattle.std.specs.Bool.{beq}
use Rattle.std.specs.List.{list_any, list_all}
use Rattle.std.specs.Str.{bytes_eq}
use Rattle.bson_values.specs.declared.pairs.Pair.{Pair}
use Rattle.jsonb_contain.specs.Rising.{value_at}
use Rattle.jsonb_contain.specs.declared.value.Json.{Json, out-Json}
use Rattle.jsonb_contain.specs.declared.value.Json.TheOpen.{Json-F}
use Rattle.jsonb_contain.specs.declared.value.Json.TheFolds.{fold-Json}
use Rattle.jsonb_contain.specs.declared.cond.Cond.{Cond}
use Rattle.jsonb_contain.specs.declared.cond.Cond.TheOpen.{Cond-F}
use Rattle.jsonb_contain.specs.declared.cond.Cond.TheFolds.{fold-Cond}

-- equal scalars
abbrev pub same_scalar : {A B : Type 0} → Json-F A → Json-F B → Bool
same_scalar Json-F.Null Json-F.Null = true
same_scalar (Json-F.Bool one) (Json-F.Bool other) = beq one other
same_scalar (Json-F.Whole one) (Json-F.Whole other) = int_eq one other
same_scalar (Json-F.Text one) (Json-F.Text other) = bytes_eq one other
same_scalar one other = false

-- a test of what is there, where anything is
abbrev pub passes : {X : Type 0} → (X → Bool) → Option X → Bool
passes test None = false
passes test (Some it) = test it

-- equal scalars; each pair has its name there and is inside; each element is inside some element; nothing else.
-- In the first stands, for each of its parts, the test whether that is inside another JSON.
abbrev pub inside_in : Json-F (Json → Bool) → Json-F Json → Bool
inside_in (Json-F.Object pairs) (Json-F.Object all) =
    list_all (λ (pair : Pair (Json → Bool)). passes pair.value (value_at pair.name all)) pairs
inside_in (Json-F.Array items) (Json-F.Array all) = list_all (λ (item : Json → Bool). list_any item all) items
inside_in one all = same_scalar one all

-- the second is inside the first
abbrev pub inside : Json → Json → Bool
inside all one = fold-Json (Json → Bool) (λ layer it. inside_in layer (out-Json it)) one all

-- the elements of an array that equal a scalar
abbrev pub has_element : Json-F Json → Json-F Json → Bool
has_element (Json-F.Array items) one = list_any (λ item. same_scalar (out-Json item) one) items
has_element all one = false

-- inside, or a scalar that an element of an array equals
abbrev pub contained : Json → Json → Bool
contained all one = inside all one || has_element (out-Json all) (out-Json one)

-- the value of a row under a name contains a JSON
abbrev pub at_key : List ℕ → Json → Json-F Json → Bool
at_key name one (Json-F.Object pairs) = passes (λ it. contained it one) (value_at name pairs)
at_key name one row = false

-- a condition, by what those in it say of a key and a row
abbrev pub met_in : Cond-F (List ℕ → Json → Bool) → List ℕ → Json → Bool
met_in (Cond-F.KeyIs wanted) key row = bytes_eq key wanted
met_in (Cond-F.AtKey name one) key row = at_key name one (out-Json row)
met_in (Cond-F.Any conds) key row = list_any (λ (cond : List ℕ → Json → Bool). cond key row) conds
met_in (Cond-F.All conds) key row = list_all (λ (cond : List ℕ → Json → Bool). cond key row) conds

-- a row with that key meets a condition
abbrev pub met : Cond → List ℕ → Json → Bool
met = fold-Cond (List ℕ → Json → Bool) met_in
