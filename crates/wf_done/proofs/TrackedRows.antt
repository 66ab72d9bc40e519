-- Tracked properties at worked values.
use Rattle.std.proofs.Common.{◌≡◌, refl, ℕ, List, [], ◌∷◌, true, false}
use Rattle.std.specs.Prelude.{codes}
use Rattle.wf_val.specs.ValueTree.{null, boolean, text}
use Rattle.wf_template.specs.DataTree as inputs
use Rattle.wf_template.specs.ExprTree.{ExprTree, literal, member}
use Rattle.wf_variables.proofs.WorkedLook.{nested, nowhere, one_member, somewhere}
use Rattle.wf_variables.specs.Told.{Told}
use Rattle.wf_variables.proofs.WorkedExpressions.{word, by_zero, of}
use Rattle.wf_variables.proofs.RowParts.{plus, fields, that, tree_fields, tree_items}
use Rattle.wf_done.specs.Done.{DoneTree, view}
use Rattle.wf_done.specs.Tracked.{tracked_value, with_own}
use Rattle.wf_done.proofs.RowParts.{done_well, done_wrong}

abbrev action : ExprTree
action = of (codes "action") []

abbrev own : List ℕ → inputs.DataTree
own k = that (member action k false)

abbrev after : DoneTree → Told → Told
after d l = with_own (view (codes "A") d) l

abbrev well : Told
well = after (done_well (plus 1) (plus 2)) nowhere

tracked-none : tracked_value well [] ≡ fields []
tracked-none = refl

tracked-status : tracked_value well ((codes "s", own (codes "status")) ∷ []) ≡ one_member (codes "s") (text (codes "Succeeded"))
tracked-status = refl

tracked-several :
    tracked_value well ((codes "c", own (codes "code")) ∷ (codes "i", own (codes "inputs")) ∷ (codes "o", own (codes "outputs")) ∷ [])
    ≡ fields ((codes "c", text (codes "OK")) ∷ (codes "i", plus 1) ∷ (codes "o", plus 2) ∷ [])
tracked-several = refl

tracked-failed :
    tracked_value (after (done_wrong (codes "Range div")) nowhere) ((codes "e", own (codes "error")) ∷ [])
    ≡ one_member (codes "e") (text (codes "Range div"))
tracked-failed = refl

-- one that has no value takes all away, the first and the last
tracked-last_fault : tracked_value well ((codes "r", own (codes "status")) ∷ (codes "s", own (codes "nope")) ∷ []) ≡ null
tracked-last_fault = refl

tracked-first_fault : tracked_value well ((codes "r", that by_zero) ∷ (codes "s", own (codes "status")) ∷ []) ≡ null
tracked-first_fault = refl

-- a value that is null is a value
tracked-null : tracked_value well ((codes "n", inputs.null) ∷ []) ≡ one_member (codes "n") null
tracked-null = refl

tracked-object :
    tracked_value well ((codes "x", tree_fields ((codes "y", own (codes "name")) ∷ [])) ∷ [])
    ≡ one_member (codes "x") (one_member (codes "y") (text (codes "A")))
tracked-object = refl

-- each has to fit, and not all together
tracked-deep : tracked_value well ((codes "d", that (literal (nested 64))) ∷ []) ≡ one_member (codes "d") (nested 64)
tracked-deep = refl

tracked-too_deep : tracked_value well ((codes "d", tree_items (that (literal (nested 64)) ∷ [])) ∷ []) ≡ null
tracked-too_deep = refl

-- ---- the look with the action's own view

-- without it there is none
own-absent : tracked_value nowhere ((codes "s", own (codes "status")) ∷ []) ≡ null
own-absent = refl

-- it takes the place of another
own-replaced :
    tracked_value (after (done_well null null) somewhere) ((codes "s", own (codes "status")) ∷ [])
    ≡ one_member (codes "s") (text (codes "Succeeded"))
own-replaced = refl

-- everything else is told as before
own-beside :
    tracked_value (after (done_well null null) somewhere)
    ((codes "a", that (of (codes "body") (word (codes "A") ∷ [])))
    ∷ (codes "p", that (of (codes "parameters") (word (codes "p") ∷ []))) ∷ [])
    ≡ fields ((codes "a", text (codes "a")) ∷ (codes "p", boolean true) ∷ [])
own-beside = refl
