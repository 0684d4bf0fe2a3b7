-- Runs one after the other.
use Rattle.std.proofs.Common.{◌≡◌, List, [], ◌∷◌, ◌++◌, refl, ap, subst}
use Rattle.doc_model.specs.Store.{Store}
use Rattle.doc_model.specs.Run.{Done, run, whos}

pub run-append : (xs ys : List Done) (s m t : Store) → run s xs m → run m ys t → run s (xs ++ ys) t
run-append [] ys s m t first second = subst (λ (x : Store). run x ys t) first second
run-append (x ∷ xs) ys s m t first second = (first.0, first.1, run-append xs ys first.0 m t first.2 second)

pub whos-append : (xs ys : List Done) → whos (xs ++ ys) ≡ whos xs ++ whos ys
whos-append [] ys = refl
whos-append (x ∷ xs) ys = ap (λ ws. x.who ∷ ws) (whos-append xs ys)
