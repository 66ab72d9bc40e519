-- Lines in the pieces in which they are written.
use Rattle.std.proofs.Common.{◌≡◌, ◌∙◌, ℕ, zero, suc, List, [], ◌∷◌, ◌++◌, Option, None, Some, slice_get, append_assoc, refl, sym, ap, codes}
use Rattle.std.proofs.lemmas.List.{append-nil}
use Rattle.std.proofs.lemmas.Option.{none-some}
use Rattle.wf_val.specs.Address.{address_text}
use Rattle.wf_json.specs.Json.{string}
use Rattle.wf_def.specs.ActionSeen.{case_tree}
use Rattle.wf_def.specs.ActionTree.{CaseTree, case_trees}
use Rattle.wf_def.specs.declared.graph.Case.{Case, out-Case}
use Rattle.wf_def.proofs.SizeLemmas.{case_tree-is}
use Rattle.wf_trace.specs.Texts.{case_at, case_text}
use Rattle.wf_trace.specs.Told.{line_at}

-- a kind and an address, and what stands behind them
pub line_is : (kind name at value : List ℕ)
    → line_at kind name at value ≡ (kind ++ 32 ∷ address_text (record { name = name; at = at })) ++ value
line_is kind name at value = sym (append_assoc kind (32 ∷ address_text (record { name = name; at = at })) value)

pub bare_line : (kind name at : List ℕ) → line_at kind name at [] ≡ kind ++ 32 ∷ address_text (record { name = name; at = at })
bare_line kind name at = line_is kind name at [] ∙ append-nil (kind ++ 32 ∷ address_text (record { name = name; at = at }))

-- and behind a blank
pub spaced_line : (kind name at value : List ℕ)
    → ((kind ++ 32 ∷ address_text (record { name = name; at = at })) ++ 32 ∷ []) ++ value ≡ line_at kind name at (32 ∷ value)
spaced_line kind name at value =
    append_assoc (kind ++ 32 ∷ address_text (record { name = name; at = at })) (32 ∷ []) value
    ∙ sym (line_is kind name at (32 ∷ value))

-- ---- the name of a case

abbrev name_of_case : Option CaseTree → List ℕ
name_of_case None = codes "default"
name_of_case (Some c) = string c.0

default_case : (cases : List CaseTree) → case_text (case_trees cases) 0 ≡ codes "default"
default_case [] = refl
default_case (c ∷ cases) = default_case cases

case_there : (cases : List CaseTree) (k : ℕ) → case_text (case_trees cases) (suc k) ≡ name_of_case (slice_get cases k)
case_there [] k = refl
case_there (c ∷ cases) zero = refl
case_there (c ∷ cases) (suc k) = case_there cases k

case_by : (cases : List CaseTree) (n : ℕ) (found : Option CaseTree) → case_at cases n ≡ found
    → case_text (case_trees cases) n ≡ name_of_case found
case_by cases zero None is = default_case cases
case_by cases zero (Some c) is = absurd (none-some c is)
case_by cases (suc k) found is = case_there cases k ∙ ap name_of_case is

-- a case that is there, and one that isn't
pub case_found : (cases : List CaseTree) (n : ℕ) (c : CaseTree) → Some c ≡ case_at cases n → string c.0 ≡ case_text (case_trees cases) n
case_found cases n c is = sym (case_by cases n (Some c) (sym is))

pub no_case : (cases : List CaseTree) (n : ℕ) → None ≡ case_at cases n → codes "default" ≡ case_text (case_trees cases) n
no_case cases n is = sym (case_by cases n None (sym is))

pub case_name : (c : Case) → (out-Case c).name ≡ (case_tree c).0
case_name c = ap (λ t. t.0) (sym (case_tree-is c))
