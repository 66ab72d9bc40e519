-- ParseJson at worked values.
use Rattle.std.proofs.Common.{◌≡◌, refl, ap, [], ◌∷◌, true, Ok, Err}
use Rattle.std.specs.Prelude.{codes}
use Rattle.wf_val.specs.Arguments.{Answer, given}
use Rattle.wf_val.specs.ValueTree.{ValueTree, null, boolean}
use Rattle.wf_val.specs.declared.fault.EvalFault.{EvalFault}
use Rattle.wf_val.specs.declared.function.Fun.{Fun}
use Rattle.wf_json.specs.declared.fault.JsonFault.{JsonFault}
use Rattle.wf_template.specs.ExprTree.{literal}
use Rattle.wf_eval.proofs.WorkedLook.{nested, nowhere}
use Rattle.wf_eval.proofs.WorkedExpressions.{int, nothing, by_zero}
use Rattle.wf_data.specs.Made.{fitting, one_member}
use Rattle.wf_data.specs.Parsed.{made_of_content, made_parse_json, parsed, read_answer}
use Rattle.wf_data.proofs.RowParts.{plus, items, that, listed, tree_fields, Outcome, makes, faults}

abbrev reads : ValueTree → Outcome
reads t = makes (one_member (codes "content") t) (one_member (codes "body") t)

-- ---- what a text spells

read-value : read_answer (Ok (plus 1)) ≡ Ok (plus 1)
read-value = refl

-- a text that spells null gives null
read-null : read_answer (Ok null) ≡ Ok null
read-null = refl

read-refused : (f : JsonFault) → read_answer (Err f) ≡ Err (EvalFault.BadText Fun.ParseJson)
read-refused f = refl

read-deepest : read_answer (Ok (nested 64)) ≡ Ok (nested 64)
read-deepest = refl

-- a text may spell a value that doesn't fit
read-too_deep : read_answer (Ok (nested 65)) ≡ Err (EvalFault.TooBig 65 66)
read-too_deep = refl

-- ---- what is no text is itself

parsed-number : made_parse_json nowhere (that (int 5)) 7 ≡ reads (plus 5)
parsed-number = refl

parsed-null : made_parse_json nowhere (that nothing) 7 ≡ reads null
parsed-null = refl

parsed-list : made_parse_json nowhere (listed (null ∷ boolean true ∷ [])) 7 ≡ reads (items (null ∷ boolean true ∷ []))
parsed-list = refl

parsed-object : made_parse_json nowhere (tree_fields ((codes "a", that nothing) ∷ [])) 7 ≡ reads (one_member (codes "a") null)
parsed-object = refl

parsed-fault : made_parse_json nowhere (that by_zero) 7 ≡ faults (EvalFault.Range Fun.Div)
parsed-fault = refl

-- ---- which fault comes first

-- inputs are measured before outputs, whose one name is shorter
parsed-inputs_first : made_parse_json nowhere (that (literal (nested 64))) 7 ≡ faults (EvalFault.TooBig 65 74)
parsed-inputs_first = refl

-- a fault of the text, also that its value doesn't fit, comes before both
parsed-text_first : (v : ValueTree) (f : EvalFault) → parsed v ≡ Err f → made_of_content v ≡ Err f
parsed-text_first v f e = ap (λ (a : Answer). given a (λ t. fitting (one_member (codes "content") v) (one_member (codes "body") t))) e
