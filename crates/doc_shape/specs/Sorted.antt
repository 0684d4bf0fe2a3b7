-- A stable sort of documents by several keys: MongoDB Manual, "cursor.sort()".
use Rattle.std.specs.Prelude.{Bool, List, [], ◌∷◌, if◌then◌else◌}
use Rattle.std.specs.declared.cmp.Ordering.{Ordering}
use Rattle.std.specs.declared.cmp.Ordering.TheVariants.{Equal}
use Rattle.std.specs.Ordering.{is_lt, ordering_then}
use Rattle.doc_shape.specs.Keys.{Doc, Way, key, key_cmp}

-- before the first that is not below it
abbrev pub put_in_order : {X : Type 0} → (X → X → Bool) → X → List X → List X
put_in_order below x [] = x ∷ []
put_in_order below x (y ∷ ys) = if below y x then y ∷ put_in_order below x ys else x ∷ y ∷ ys

-- in order; those of which neither is below the other stay as they stand
abbrev pub stably_sorted : {X : Type 0} → (X → X → Bool) → List X → List X
stably_sorted below [] = []
stably_sorted below (x ∷ xs) = put_in_order below x (stably_sorted below xs)

-- by the first key that tells two documents apart
abbrev pub order_cmp : List Way → Doc → Doc → Ordering
order_cmp [] one other = Equal
order_cmp (way ∷ ways) one other = ordering_then (key_cmp way.1 (key way one) (key way other)) (order_cmp ways one other)

abbrev pub sorted : List Way → List Doc → List Doc
sorted ways docs = stably_sorted (λ one other. is_lt (order_cmp ways one other)) docs
