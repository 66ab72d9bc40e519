-- Four files that are added in turn.
use Rattle.std.proofs.Common.{◌≡◌, ℕ, List, Option, Some, None, ap₂, ◌∙◌, bytes_eq, if◌then◌else◌, codes}
use Rattle.wf_tests.specs.Command.{handed}

abbrev Names : Type 0
Names = List ℕ → Option (List ℕ)

-- one file more
abbrev IsAdded : Names → Names → List ℕ → List ℕ → Type 0
IsAdded old new k bytes = (other : List ℕ) → new other ≡ (if bytes_eq k other then Some bytes else old other)

added : (old new : Names) (k name bytes : List ℕ) (rest : Option (List ℕ)) (other : List ℕ) → IsAdded old new k bytes → k ≡ name
    → old other ≡ rest
    → new other ≡ (if bytes_eq name other then Some bytes else rest)
added old new k name bytes rest other is named before =
    is other ∙ ap₂ (λ (n : List ℕ) (o : Option (List ℕ)). if bytes_eq n other then Some bytes else o) named before

pub all_added : (none first second third all : Names) (a b c e d h i s : List ℕ) → ((name : List ℕ) → none name ≡ None)
    → IsAdded none first a d → IsAdded first second b h → IsAdded second third c i → IsAdded third all e s
    → a ≡ codes "definition" → b ≡ codes "history" → c ≡ codes "inputs" → e ≡ codes "schedule"
    → (name : List ℕ) → all name ≡ handed d h i s name
all_added none first second third all a b c e d h i s empty one two three four is_a is_b is_c is_e name =
    added third all e (codes "schedule") s (if bytes_eq (codes "inputs") name then Some i else
    (if bytes_eq (codes "history") name then Some h else (if bytes_eq (codes "definition") name then Some d else None))) name four is_e
    (added second third c (codes "inputs") i (if bytes_eq (codes "history") name then Some h else
    (if bytes_eq (codes "definition") name then Some d else None)) name three is_c
    (added first second b (codes "history") h (if bytes_eq (codes "definition") name then Some d else None) name two is_b
    (added none first a (codes "definition") d None name one is_a (empty name))))
