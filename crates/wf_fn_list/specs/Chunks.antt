-- A text or a list cut into pieces of one length (Workflow Definition Language, collection function chunk).
use Rattle.std.specs.Prelude.{ℕ, zero, suc, ◌-◌, ℤ, pos, List, [], ◌∷◌, Result, Ok, Err, map}
use Rattle.wf_val.specs.Arguments.{Answer, bounded}
use Rattle.wf_val.specs.ValueTree.{ValueTree}
use Rattle.wf_val.specs.declared.fault.EvalFault.{EvalFault}
use Rattle.wf_val.specs.declared.function.Fun.{Fun}
use Rattle.wf_fn_list.specs.Parts.{with_number, spelled, listed}

-- an item in front of the first piece
abbrev pub onto_first : {X : Type 0} → X → List (List X) → List (List X)
onto_first x [] = (x ∷ []) ∷ []
onto_first x (piece ∷ pieces) = (x ∷ piece) ∷ pieces

-- the pieces of a list, where `others` items go with the first of each piece, and `room` items with the next one
abbrev pub pieces_from : {X : Type 0} → ℕ → ℕ → List X → List (List X)
pieces_from others room [] = []
pieces_from others zero (x ∷ xs) = (x ∷ []) ∷ pieces_from others others xs
pieces_from others (suc room) (x ∷ xs) = onto_first x (pieces_from others room xs)

-- pieces of so many items, the last perhaps shorter
abbrev pub chunks : {X : Type 0} → ℕ → List X → List (List X)
chunks size xs = pieces_from (size - 1) (size - 1) xs

-- the length of a piece; `Range` below 1
abbrev pub chunk_size : ℤ → Result ℕ EvalFault
chunk_size (pos (suc n)) = Ok (suc n)
chunk_size n = Err (EvalFault.Range Fun.Chunk)

abbrev pub chunk_row : List ValueTree → Answer
chunk_row =
    with_number Fun.Chunk chunk_size (λ n cs. bounded (listed (map spelled (chunks n cs))))
    (λ n xs. bounded (listed (map listed (chunks n xs))))
