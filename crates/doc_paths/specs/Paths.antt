-- Paths, as texts spell them: MongoDB Manual, "Dot Notation".
use Rattle.std.specs.Prelude.{ℕ, ◌≡◌, Bool, List, length, ◌==◌, nat_lt, if◌then◌else◌, Result, Ok, Err, IsOk}
use Rattle.std.specs.List.{slice_split, list_any}
use Rattle.doc_paths.specs.declared.path.PathRefused.{PathRefused}
use Rattle.doc_paths.specs.declared.path.PathRefused.TheVariants.{Empty, Long, NoMemory}

-- the parts between dots
abbrev pub parts : List ℕ → List (List ℕ)
parts text = slice_split (λ byte. byte == 46) text

abbrev pub is_empty : List ℕ → Bool
is_empty part = length part == 0

-- the parts, of which none is empty and at most 100 are there
abbrev pub read : List ℕ → Result (List (List ℕ)) PathRefused
read text =
    if list_any is_empty (parts text) then Err Empty
    else if nat_lt 100 (length (parts text)) then Err Long
    else Ok (parts text)

-- a reason that the code may give: the definition's, or want of memory for the parts of a path
abbrev pub IsRefusedFor : PathRefused → Result (List (List ℕ)) PathRefused → Type 0
IsRefusedFor Empty found = found ≡ Err Empty
IsRefusedFor Long found = found ≡ Err Long
IsRefusedFor NoMemory found = IsOk found
