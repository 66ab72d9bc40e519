-- Values of the functions of values alone at worked calls: which function each name is, and what comes before its row. What reads JSON or
-- prints a number doesn't compute here, and is tried by running.
use Rattle.std.proofs.Common.{◌≡◌, ◌-◌, ◌^◌, refl, [], ◌∷◌, Ok, Err, true, false}
use Rattle.std.specs.Prelude.{pos, codes}
use Rattle.wf_val.specs.ValueTree.{null, boolean, number, text, list, trees}
use Rattle.wf_val.specs.declared.fault.EvalFault.{EvalFault}
use Rattle.wf_val.specs.declared.function.Fun.{Fun}
use Rattle.wf_template.specs.ExprTree.{literal}
use Rattle.wf_look.proofs.WorkedLook.{nested}
use Rattle.wf_eval_expr.proofs.WorkedExpressions.{int, word, truth, nothing, of, by_zero, rest_by_zero, here}

-- ---- functions of values: names without letter case, all arguments before any is judged

add-any_case : here (of (codes "ADD") (int 1 ∷ int 2 ∷ [])) ≡ (Ok (number (pos 3)), 7)
add-any_case = refl

add-second : here (of (codes "add") (int 1 ∷ word (codes "x") ∷ [])) ≡ (Err (EvalFault.WrongType Fun.Add 2), 7)
add-second = refl

add-all_first : here (of (codes "add") (word (codes "x") ∷ by_zero ∷ [])) ≡ (Err (EvalFault.Range Fun.Div), 7)
add-all_first = refl

add-leftmost : here (of (codes "add") (rest_by_zero ∷ by_zero ∷ [])) ≡ (Err (EvalFault.Range Fun.Mod), 7)
add-leftmost = refl

add-few : here (of (codes "add") (int 1 ∷ [])) ≡ (Err (EvalFault.WrongType Fun.Add 2), 7)
add-few = refl

add-many : here (of (codes "add") (int 1 ∷ int 2 ∷ int 3 ∷ [])) ≡ (Err (EvalFault.WrongType Fun.Add 4), 7)
add-many = refl

add-few_after_arguments : here (of (codes "add") (by_zero ∷ [])) ≡ (Err (EvalFault.Range Fun.Div), 7)
add-few_after_arguments = refl

add-past :
    here (of (codes "add") (literal (number (pos (2 ^ 63 - 1))) ∷ int 1 ∷ []))
    ≡ (Err (EvalFault.Range Fun.Add), 7)
add-past = refl

sub-is_its_own : here (of (codes "sub") (int 3 ∷ int 1 ∷ [])) ≡ (Ok (number (pos 2)), 7)
sub-is_its_own = refl

mul-is_its_own : here (of (codes "mul") (int 3 ∷ int 2 ∷ [])) ≡ (Ok (number (pos 6)), 7)
mul-is_its_own = refl

div-is_its_own : here (of (codes "div") (int 7 ∷ int 2 ∷ [])) ≡ (Ok (number (pos 3)), 7)
div-is_its_own = refl

mod-is_its_own : here (of (codes "mod") (int 7 ∷ int 2 ∷ [])) ≡ (Ok (number (pos 1)), 7)
mod-is_its_own = refl

min-is_its_own : here (of (codes "min") (int 3 ∷ int 1 ∷ [])) ≡ (Ok (number (pos 1)), 7)
min-is_its_own = refl

max-is_its_own : here (of (codes "max") (int 3 ∷ int 1 ∷ [])) ≡ (Ok (number (pos 3)), 7)
max-is_its_own = refl

equals-is_its_own : here (of (codes "equals") (int 1 ∷ int 1 ∷ [])) ≡ (Ok (boolean true), 7)
equals-is_its_own = refl

greater-is_its_own : here (of (codes "greater") (int 1 ∷ int 1 ∷ [])) ≡ (Ok (boolean false), 7)
greater-is_its_own = refl

greaterOrEquals-is_its_own : here (of (codes "greaterOrEquals") (int 1 ∷ int 1 ∷ [])) ≡ (Ok (boolean true), 7)
greaterOrEquals-is_its_own = refl

less-is_its_own : here (of (codes "less") (int 1 ∷ int 1 ∷ [])) ≡ (Ok (boolean false), 7)
less-is_its_own = refl

lessOrEquals-is_its_own : here (of (codes "lessOrEquals") (int 1 ∷ int 1 ∷ [])) ≡ (Ok (boolean true), 7)
lessOrEquals-is_its_own = refl

not-is_its_own : here (of (codes "not") (truth ∷ [])) ≡ (Ok (boolean false), 7)
not-is_its_own = refl

int-is_its_own : here (of (codes "int") (word (codes "7") ∷ [])) ≡ (Ok (number (pos 7)), 7)
int-is_its_own = refl

bool-is_its_own : here (of (codes "bool") (int 0 ∷ [])) ≡ (Ok (boolean false), 7)
bool-is_its_own = refl

isInt-is_its_own : here (of (codes "isInt") (word (codes "x") ∷ [])) ≡ (Ok (boolean false), 7)
isInt-is_its_own = refl

concat-is_its_own :
    here (of (codes "concat") (word (codes "a") ∷ nothing ∷ truth ∷ []))
    ≡ (Ok (text (codes "atrue")), 7)
concat-is_its_own = refl

replace-is_its_own :
    here (of (codes "replace") (word (codes "aba") ∷ word (codes "a") ∷ word (codes "c") ∷ []))
    ≡ (Ok (text (codes "cbc")), 7)
replace-is_its_own = refl

split-is_its_own :
    here (of (codes "split") (word (codes "a,b") ∷ word (codes ",") ∷ []))
    ≡ (Ok (list (trees (text (codes "a") ∷ text (codes "b") ∷ []))), 7)
split-is_its_own = refl

toLower-is_its_own : here (of (codes "toLower") (word (codes "aB") ∷ [])) ≡ (Ok (text (codes "ab")), 7)
toLower-is_its_own = refl

toUpper-is_its_own : here (of (codes "toUpper") (word (codes "aB") ∷ [])) ≡ (Ok (text (codes "AB")), 7)
toUpper-is_its_own = refl

startsWith-is_its_own :
    here (of (codes "startsWith") (word (codes "ab") ∷ word (codes "A") ∷ []))
    ≡ (Ok (boolean true), 7)
startsWith-is_its_own = refl

endsWith-is_its_own :
    here (of (codes "endsWith") (word (codes "ab") ∷ word (codes "A") ∷ []))
    ≡ (Ok (boolean false), 7)
endsWith-is_its_own = refl

substring-is_its_own :
    here (of (codes "substring") (int 1 ∷ int 1 ∷ []))
    ≡ (Err (EvalFault.WrongType Fun.Substring 1), 7)
substring-is_its_own = refl

trim-is_its_own : here (of (codes "trim") (int 1 ∷ [])) ≡ (Err (EvalFault.WrongType Fun.Trim 1), 7)
trim-is_its_own = refl

indexOf-is_its_own :
    here (of (codes "indexOf") (int 1 ∷ word (codes "a") ∷ []))
    ≡ (Err (EvalFault.WrongType Fun.IndexOf 1), 7)
indexOf-is_its_own = refl

lastIndexOf-is_its_own :
    here (of (codes "lastIndexOf") (int 1 ∷ word (codes "a") ∷ []))
    ≡ (Err (EvalFault.WrongType Fun.LastIndexOf 1), 7)
lastIndexOf-is_its_own = refl

slice-is_its_own : here (of (codes "slice") (int 1 ∷ int 1 ∷ [])) ≡ (Err (EvalFault.WrongType Fun.Slice 1), 7)
slice-is_its_own = refl

length-is_its_own : here (of (codes "length") (truth ∷ [])) ≡ (Err (EvalFault.WrongType Fun.Length 1), 7)
length-is_its_own = refl

empty-is_its_own : here (of (codes "empty") (truth ∷ [])) ≡ (Err (EvalFault.WrongType Fun.Empty 1), 7)
empty-is_its_own = refl

contains-is_its_own :
    here (of (codes "contains") (truth ∷ truth ∷ []))
    ≡ (Err (EvalFault.WrongType Fun.Contains 1), 7)
contains-is_its_own = refl

first-is_its_own : here (of (codes "first") (truth ∷ [])) ≡ (Err (EvalFault.WrongType Fun.First 1), 7)
first-is_its_own = refl

last-is_its_own : here (of (codes "last") (truth ∷ [])) ≡ (Err (EvalFault.WrongType Fun.Last 1), 7)
last-is_its_own = refl

take-is_its_own : here (of (codes "take") (truth ∷ truth ∷ [])) ≡ (Err (EvalFault.WrongType Fun.Take 1), 7)
take-is_its_own = refl

skip-is_its_own : here (of (codes "skip") (truth ∷ truth ∷ [])) ≡ (Err (EvalFault.WrongType Fun.Skip 1), 7)
skip-is_its_own = refl

join-is_its_own : here (of (codes "join") (truth ∷ truth ∷ [])) ≡ (Err (EvalFault.WrongType Fun.Join 1), 7)
join-is_its_own = refl

union-is_its_own : here (of (codes "union") (truth ∷ truth ∷ [])) ≡ (Err (EvalFault.WrongType Fun.Union 1), 7)
union-is_its_own = refl

intersection-is_its_own :
    here (of (codes "intersection") (truth ∷ truth ∷ []))
    ≡ (Err (EvalFault.WrongType Fun.Intersection 1), 7)
intersection-is_its_own = refl

range-is_its_own : here (of (codes "range") (truth ∷ truth ∷ [])) ≡ (Err (EvalFault.WrongType Fun.Range 1), 7)
range-is_its_own = refl

chunk-is_its_own : here (of (codes "chunk") (truth ∷ truth ∷ [])) ≡ (Err (EvalFault.WrongType Fun.Chunk 1), 7)
chunk-is_its_own = refl

sort-is_its_own : here (of (codes "sort") (truth ∷ [])) ≡ (Err (EvalFault.WrongType Fun.Sort 1), 7)
sort-is_its_own = refl

reverse-is_its_own : here (of (codes "reverse") (truth ∷ [])) ≡ (Err (EvalFault.WrongType Fun.Reverse 1), 7)
reverse-is_its_own = refl

addProperty-is_its_own :
    here (of (codes "addProperty") (truth ∷ truth ∷ truth ∷ []))
    ≡ (Err (EvalFault.WrongType Fun.AddProperty 1), 7)
addProperty-is_its_own = refl

setProperty-is_its_own :
    here (of (codes "setProperty") (truth ∷ truth ∷ truth ∷ []))
    ≡ (Err (EvalFault.WrongType Fun.SetProperty 1), 7)
setProperty-is_its_own = refl

removeProperty-is_its_own :
    here (of (codes "removeProperty") (truth ∷ truth ∷ []))
    ≡ (Err (EvalFault.WrongType Fun.RemoveProperty 1), 7)
removeProperty-is_its_own = refl

uriComponent-is_its_own :
    here (of (codes "uriComponent") (truth ∷ []))
    ≡ (Err (EvalFault.WrongType Fun.UriComponent 1), 7)
uriComponent-is_its_own = refl

encodeUriComponent-is_its_own :
    here (of (codes "encodeUriComponent") (truth ∷ []))
    ≡ (Err (EvalFault.WrongType Fun.EncodeUriComponent 1), 7)
encodeUriComponent-is_its_own = refl

uriComponentToString-is_its_own :
    here (of (codes "uriComponentToString") (truth ∷ []))
    ≡ (Err (EvalFault.WrongType Fun.UriComponentToString 1), 7)
uriComponentToString-is_its_own = refl

decodeUriComponent-is_its_own :
    here (of (codes "decodeUriComponent") (truth ∷ []))
    ≡ (Err (EvalFault.WrongType Fun.DecodeUriComponent 1), 7)
decodeUriComponent-is_its_own = refl

uriScheme-is_its_own : here (of (codes "uriScheme") (truth ∷ [])) ≡ (Err (EvalFault.WrongType Fun.UriScheme 1), 7)
uriScheme-is_its_own = refl

uriHost-is_its_own : here (of (codes "uriHost") (truth ∷ [])) ≡ (Err (EvalFault.WrongType Fun.UriHost 1), 7)
uriHost-is_its_own = refl

uriPath-is_its_own : here (of (codes "uriPath") (truth ∷ [])) ≡ (Err (EvalFault.WrongType Fun.UriPath 1), 7)
uriPath-is_its_own = refl

uriQuery-is_its_own : here (of (codes "uriQuery") (truth ∷ [])) ≡ (Err (EvalFault.WrongType Fun.UriQuery 1), 7)
uriQuery-is_its_own = refl

uriPathAndQuery-is_its_own :
    here (of (codes "uriPathAndQuery") (truth ∷ []))
    ≡ (Err (EvalFault.WrongType Fun.UriPathAndQuery 1), 7)
uriPathAndQuery-is_its_own = refl

uriPort-is_its_own : here (of (codes "uriPort") (truth ∷ [])) ≡ (Err (EvalFault.WrongType Fun.UriPort 1), 7)
uriPort-is_its_own = refl

base64-is_its_own : here (of (codes "base64") (truth ∷ [])) ≡ (Err (EvalFault.WrongType Fun.Base64 1), 7)
base64-is_its_own = refl

base64ToString-is_its_own :
    here (of (codes "base64ToString") (truth ∷ []))
    ≡ (Err (EvalFault.WrongType Fun.Base64ToString 1), 7)
base64ToString-is_its_own = refl

decodeBase64-is_its_own :
    here (of (codes "decodeBase64") (truth ∷ []))
    ≡ (Err (EvalFault.WrongType Fun.DecodeBase64 1), 7)
decodeBase64-is_its_own = refl

dataUri-is_its_own : here (of (codes "dataUri") (truth ∷ [])) ≡ (Err (EvalFault.WrongType Fun.DataUri 1), 7)
dataUri-is_its_own = refl

dataUriToString-is_its_own :
    here (of (codes "dataUriToString") (truth ∷ []))
    ≡ (Err (EvalFault.WrongType Fun.DataUriToString 1), 7)
dataUriToString-is_its_own = refl

createArray-is_its_own :
    here (of (codes "createArray") (truth ∷ nothing ∷ []))
    ≡ (Ok (list (trees (boolean true ∷ null ∷ []))), 7)
createArray-is_its_own = refl

array-is_its_own : here (of (codes "array") (nothing ∷ [])) ≡ (Ok (list (trees (null ∷ []))), 7)
array-is_its_own = refl

join-texts :
    here (of (codes "join") ((of (codes "createArray") (truth ∷ nothing ∷ word (codes "x") ∷ [])) ∷ word (codes "-") ∷ []))
    ≡ (Ok (text (codes "true--x")), 7)
join-texts = refl

join-no_text :
    here (of (codes "join") ((of (codes "createArray") ([])) ∷ truth ∷ []))
    ≡ (Err (EvalFault.WrongType Fun.Join 2), 7)
join-no_text = refl

concat-none : here (of (codes "concat") ([])) ≡ (Err (EvalFault.WrongType Fun.Concat 1), 7)
concat-none = refl

concat-list : here (of (codes "concat") (literal (nested 2) ∷ [])) ≡ (Ok (text (codes "[[null]]")), 7)
concat-list = refl

concat-leftmost : here (of (codes "concat") (rest_by_zero ∷ by_zero ∷ [])) ≡ (Err (EvalFault.Range Fun.Mod), 7)
concat-leftmost = refl

guid-arguments_first : here (of (codes "guid") (by_zero ∷ [])) ≡ (Err (EvalFault.Range Fun.Div), 7)
guid-arguments_first = refl

guid-counted : here (of (codes "guid") (int 1 ∷ int 2 ∷ [])) ≡ (Err (EvalFault.WrongType Fun.Guid 3), 7)
guid-counted = refl

unknown-arguments_first : here (of (codes "foo") (by_zero ∷ [])) ≡ (Err (EvalFault.Range Fun.Div), 7)
unknown-arguments_first = refl

unknown-as_written : here (of (codes "FoO") ([])) ≡ (Err (EvalFault.NoValue (codes "FoO")), 7)
unknown-as_written = refl

no_function : here (of (codes "condition") (int 1 ∷ [])) ≡ (Err (EvalFault.NoValue (codes "condition")), 7)
no_function = refl
