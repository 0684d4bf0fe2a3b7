-- One of three cases.
use Rattle.std.specs.Prelude.{◌⊎◌}

-- one of three holds, and no other
abbrev pub ExactlyOne : Type 0 → Type 0 → Type 0 → Type 0
ExactlyOne One Two Three =
    (One × (Two → ⊥) × (Three → ⊥))
    ⊎ ((Two × (One → ⊥) × (Three → ⊥))
    ⊎ (Three × (One → ⊥) × (Two → ⊥)))
