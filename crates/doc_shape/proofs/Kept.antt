-- What a sort keeps of documents: how many they are, and what holds of each.
use Rattle.std.proofs.Common.{◌≡◌, ◌+◌, Bool, true, false, cond, List, [], ◌∷◌, length, All, refl, arith}
use Rattle.std.proofs.lemmas.List.Elements.{All-nil, All-cons, All-head, All-tail}
use Rattle.std.specs.Ordering.{is_lt}
use Rattle.doc_shape.specs.Keys.{Doc, Way}
use Rattle.doc_shape.specs.Sorted.{put_in_order, stably_sorted, order_cmp, sorted}

module _ {X : Type 0} (below : X → X → Bool) where
  either_length : (b : Bool) (x y : X) (ys more : List X) → length more ≡ length ys + 1
      → length (cond b (y ∷ more) (x ∷ y ∷ ys)) ≡ length (y ∷ ys) + 1
  either_length true x y ys more is = omega (arith, is)
  either_length false x y ys more is = omega arith

  put-length : (x : X) (xs : List X) → length (put_in_order below x xs) ≡ length xs + 1
  put-length x [] = omega arith
  put-length x (y ∷ ys) = either_length (below y x) x y ys (put_in_order below x ys) (put-length x ys)

  all-length : (xs : List X) → length (stably_sorted below xs) ≡ length xs
  all-length [] = refl
  all-length (x ∷ xs) = omega (arith, put-length x (stably_sorted below xs), all-length xs)

  module _ (P : X → Type 0) where
    either_holds : (b : Bool) (x y : X) (ys more : List X) → P x → All P (y ∷ ys) → All P more
        → All P (cond b (y ∷ more) (x ∷ y ∷ ys))
    either_holds true x y ys more holds all there = All-cons P y more (All-head P y ys all) there
    either_holds false x y ys more holds all there = All-cons P x (y ∷ ys) holds all

    put-holds : (x : X) (xs : List X) → P x → All P xs → All P (put_in_order below x xs)
    put-holds x [] holds all = All-cons P x [] holds all
    put-holds x (y ∷ ys) holds all =
        either_holds (below y x) x y ys (put_in_order below x ys) holds all (put-holds x ys holds (All-tail P y ys all))

    all-hold : (xs : List X) → All P xs → All P (stably_sorted below xs)
    all-hold [] all = All-nil P
    all-hold (x ∷ xs) all = put-holds x (stably_sorted below xs) (All-head P x xs all) (all-hold xs (All-tail P x xs all))

-- what holds of each document holds of each of the sorted ones
pub sorted-all : (P : Doc → Type 0) (order : List Way) (docs : List Doc) → All P docs → All P (sorted order docs)
sorted-all P order docs = all-hold (λ one other. is_lt (order_cmp order one other)) P docs

-- they are as many
pub sorted-length : (order : List Way) (docs : List Doc) → length (sorted order docs) ≡ length docs
sorted-length order docs = all-length (λ one other. is_lt (order_cmp order one other)) docs

-- none are none
pub sorted-none : (order : List Way) → sorted order [] ≡ []
sorted-none order = refl
