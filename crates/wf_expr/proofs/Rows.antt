-- The grammar at worked texts, each with the template that it spells or the place where it goes wrong.
use Rattle.std.proofs.Common.{None, Some, ◌≡◌, ◌-◌, ℕ, zero, suc, List, [], ◌∷◌, ◌++◌, pos, negsuc, Ok, true, false, refl, codes, length, ap}
use Rattle.std.specs.Char.{encode_utf8}
use Rattle.std.specs.Str.{chars}
use Rattle.wf_expr.specs.declared.kind.Kind.TheVariants.{Blank, Digit, Letter, Quote, Open, Close, Bracket, Unbracket, Comma, Dot, Soft, Under, Dollar, Minus, At, Brace, Unbrace, Other}
use Rattle.wf_expr.specs.Kinds.{kind}
use Rattle.wf_template.specs.ExprTree.{ExprTree, call, member, index, no_exprs, expr_then}
use Rattle.wf_template.specs.TemplateTree.{letters, part, plain, whole, parts}
use Rattle.wf_expr.specs.Reading.{character, embedded, items_of, whole_of, Reading, template_of, text_literal, number_literal, boolean_literal, null_literal}
use Rattle.wf_expr.specs.Grammar.{Reads}
use Rattle.wf_expr.specs.Printed.{printed}
use Rattle.wf_expr.specs.Spells.{Spells, IsFault, too_long, over, first_over}
use Rattle.wf_expr.specs.Text.{template_in}
use Rattle.wf_expr.specs.WordTests.{word_of, word_front}
use Rattle.wf_expr.specs.Machine.{scan, start}
use Rattle.wf_expr.proofs.Scans.{found, fault}

spelled : (s : List ℕ) (w : Reading) → scan start 0 s ≡ Ok w → too_long s w ≡ None → Spells s (template_of w)
spelled s w h fits = record { reading = w; reads = found s w h; fits = fits; gives = refl }

two_ats : Spells (codes "@@x") (plain (codes "@x"))
unfolding kind encode_utf8
two_ats = spelled (codes "@@x") _ refl refl

one_part : Spells (codes "@{1}") (parts (part (number_literal (pos 1)) ∷ []))
unfolding kind encode_utf8
one_part = spelled (codes "@{1}") _ refl refl

escaped : Spells (codes "a@@{b}") (plain (codes "a@{b}"))
unfolding kind encode_utf8
escaped = spelled (codes "a@@{b}") _ refl refl

blank_first : Spells (codes " @x") (plain (codes " @x"))
unfolding kind encode_utf8
blank_first = spelled (codes " @x") _ refl refl

doubled_quote : Spells (codes "@'it''s'") (whole (text_literal (codes "it's")))
unfolding kind encode_utf8
doubled_quote = spelled (codes "@'it''s'") _ refl refl

name_as_written : Spells (codes "@ADD(1, 2)") (whole (call (codes "ADD") (expr_then (number_literal (pos 1)) (expr_then (number_literal (pos 2)) no_exprs))))
unfolding kind encode_utf8 word_of word_front
name_as_written = spelled (codes "@ADD(1, 2)") _ refl refl

accesses : Spells (codes "@body('A')?['x'].y") (whole (member (index (call (codes "body") (expr_then (text_literal (codes "A")) no_exprs)) (text_literal (codes "x")) true) (codes "y") false))
unfolding kind encode_utf8 word_of word_front
accesses = spelled (codes "@body('A')?['x'].y") _ refl refl

word_without_case : Spells (codes "@{TRUE}-") (parts (part (boolean_literal true) ∷ letters (codes "-") ∷ []))
unfolding kind encode_utf8 word_of word_front
word_without_case = spelled (codes "@{TRUE}-") _ refl refl

call_of_a_word : Spells (codes "@null()") (whole (call (codes "null") no_exprs))
unfolding kind encode_utf8 word_of word_front
call_of_a_word = spelled (codes "@null()") _ refl refl

minus_zero : Spells (codes "@-0") (whole (number_literal (pos 0)))
unfolding kind encode_utf8
minus_zero = spelled (codes "@-0") _ refl refl

open_call : IsFault (codes "@concat('a") 10
unfolding kind encode_utf8 word_of word_front
open_call = fault (codes "@concat('a") 10 refl

fraction : IsFault (codes "@1.5") 3
unfolding kind encode_utf8
fraction = fault (codes "@1.5") 3 refl

at_alone : IsFault (codes "@") 1
unfolding kind encode_utf8
at_alone = fault (codes "@") 1 refl

past_the_range : IsFault (codes "@9223372036854775808") 19
unfolding kind encode_utf8
past_the_range = fault (codes "@9223372036854775808") 19 refl

unended_part : IsFault (codes "x@{1") 4
unfolding kind encode_utf8
unended_part = fault (codes "x@{1") 4 refl

-- white space counts, and the braces don't
lengths_in_characters : Reads 7 (codes "@{ 1 }-") (items_of (embedded (number_literal (pos 1)) 3 ∷ character 45 ∷ []))
unfolding kind encode_utf8
lengths_in_characters = found (codes "@{ 1 }-") _ refl

-- the first and the last letter of both cases, the first and the last digit, and what stands next to them
are_letters : (kind 65 ≡ Letter) × (kind 90 ≡ Letter) × (kind 97 ≡ Letter) × (kind 122 ≡ Letter)
unfolding kind
are_letters = (refl, refl, refl, refl)

no_letters : (kind 64 ≡ At) × (kind 91 ≡ Bracket) × (kind 96 ≡ Other) × (kind 123 ≡ Brace) × (kind 233 ≡ Other)
unfolding kind
no_letters = (refl, refl, refl, refl, refl)

digits : (kind 48 ≡ Digit) × (kind 57 ≡ Digit) × (kind 47 ≡ Other) × (kind 58 ≡ Other)
unfolding kind
digits = (refl, refl, refl, refl)

-- space, tab, carriage return and line feed; no vertical tab, form feed, next line or no-break space
blanks : (kind 32 ≡ Blank) × (kind 9 ≡ Blank) × (kind 13 ≡ Blank) × (kind 10 ≡ Blank)
unfolding kind
blanks = (refl, refl, refl, refl)

no_blanks : (kind 11 ≡ Other) × (kind 12 ≡ Other) × (kind 133 ≡ Other) × (kind 160 ≡ Other)
unfolding kind
no_blanks = (refl, refl, refl, refl)

brackets : (kind 40 ≡ Open) × (kind 41 ≡ Close) × (kind 91 ≡ Bracket) × (kind 93 ≡ Unbracket)
unfolding kind
brackets = (refl, refl, refl, refl)

braces : (kind 64 ≡ At) × (kind 123 ≡ Brace) × (kind 125 ≡ Unbrace)
unfolding kind
braces = (refl, refl, refl)

marks : (kind 39 ≡ Quote) × (kind 44 ≡ Comma) × (kind 46 ≡ Dot) × (kind 63 ≡ Soft)
unfolding kind
marks = (refl, refl, refl, refl)

marks_in_names : (kind 95 ≡ Under) × (kind 36 ≡ Dollar) × (kind 45 ≡ Minus)
unfolding kind
marks_in_names = (refl, refl, refl)

-- names of functions: a letter, and then letters, digits and `_`
name_of_a_function : Spells (codes "@Zaz_09Z()") (whole (call (codes "Zaz_09Z") no_exprs))
unfolding kind encode_utf8 word_of word_front
name_of_a_function = spelled (codes "@Zaz_09Z()") _ refl refl

dollar_in_a_function : IsFault (codes "@f$()") 2
unfolding kind encode_utf8 word_of word_front
dollar_in_a_function = fault (codes "@f$()") 2 refl

dollar_before_a_function : IsFault (codes "@$f()") 1
unfolding kind encode_utf8 word_of word_front
dollar_before_a_function = fault (codes "@$f()") 1 refl

under_before_a_function : IsFault (codes "@_f()") 1
unfolding kind encode_utf8 word_of word_front
under_before_a_function = fault (codes "@_f()") 1 refl

-- names of members: a letter, `_` or `$`, and then these and digits
names_of_members : Spells (codes "@1.$_zZ9._$")
    (whole (member (member (number_literal (pos 1)) (codes "$_zZ9") false) (codes "_$") false))
unfolding kind encode_utf8 word_of word_front
names_of_members = spelled (codes "@1.$_zZ9._$") _ refl refl

-- white space
tab_in_quotes : Spells (codes "@'" ++ (9 ∷ 10 ∷ codes "'")) (whole (text_literal (9 ∷ 10 ∷ [])))
unfolding kind encode_utf8
tab_in_quotes = spelled (codes "@'" ++ (9 ∷ 10 ∷ codes "'")) _ refl refl

blanks_around : Spells (64 ∷ 9 ∷ 10 ∷ 13 ∷ 32 ∷ 49 ∷ 9 ∷ 10 ∷ 13 ∷ 32 ∷ []) (whole (number_literal (pos 1)))
unfolding kind encode_utf8
blanks_around = spelled (64 ∷ 9 ∷ 10 ∷ 13 ∷ 32 ∷ 49 ∷ 9 ∷ 10 ∷ 13 ∷ 32 ∷ []) _ refl refl

blanks_within : Spells (codes "@f ( 1 ) ?[ 'a' ] . b")
    (whole (member (index (call (codes "f") (expr_then (number_literal (pos 1)) no_exprs)) (text_literal (codes "a")) true) (codes "b") false))
unfolding kind encode_utf8 word_of word_front
blanks_within = spelled (codes "@f ( 1 ) ?[ 'a' ] . b") _ refl refl

blank_behind_minus : IsFault (codes "@- 1") 2
unfolding kind encode_utf8
blank_behind_minus = fault (codes "@- 1") 2 refl

blank_behind_soft : IsFault (codes "@1? .a") 3
unfolding kind encode_utf8
blank_behind_soft = fault (codes "@1? .a") 3 refl

-- both ends of the range of numbers, and one past them
least_number : Spells (codes "@-9223372036854775808") (whole (number_literal (negsuc 9223372036854775807)))
unfolding kind encode_utf8
least_number = spelled (codes "@-9223372036854775808") _ refl refl

below_the_range : IsFault (codes "@-9223372036854775809") 20
unfolding kind encode_utf8
below_the_range = fault (codes "@-9223372036854775809") 20 refl

greatest_number : Spells (codes "@0009223372036854775807") (whole (number_literal (pos 9223372036854775807)))
unfolding kind encode_utf8
greatest_number = spelled (codes "@0009223372036854775807") _ refl refl

-- what needs an end
unended_quote : IsFault (codes "@'a''") 5
unfolding kind encode_utf8
unended_quote = fault (codes "@'a''") 5 refl

argument_behind_a_comma : IsFault (codes "@f(1,)") 5
unfolding kind encode_utf8 word_of word_front
argument_behind_a_comma = fault (codes "@f(1,)") 5 refl

no_function : IsFault (codes "@abc def") 5
unfolding kind encode_utf8 word_of word_front
no_function = fault (codes "@abc def") 5 refl

-- 64 brackets are open at once, and a 65th goes wrong; those that are closed aren't counted
abbrev so_often : ℕ → List ℕ → List ℕ
so_often zero s = []
so_often (suc n) s = s ++ so_often n s

abbrev calls_in_calls : ℕ → ExprTree
calls_in_calls zero = number_literal (pos 1)
calls_in_calls (suc n) = call (codes "f") (expr_then (calls_in_calls n) no_exprs)

abbrev nested_64 : List ℕ
nested_64 = codes "@" ++ (so_often 64 (codes "f(") ++ (codes "1" ++ so_often 64 (codes ")")))

abbrev nested_65 : List ℕ
nested_65 = codes "@" ++ so_often 65 (codes "f(")

abbrev keys_in_calls : List ℕ
keys_in_calls = codes "@" ++ (so_often 32 (codes "f(1[") ++ codes "1[")

abbrev not_nested : List ℕ
not_nested = codes "@" ++ (so_often 63 (codes "f(") ++ codes "f(1),f(f()")

brackets_64 : Spells nested_64 (whole (calls_in_calls 64))
unfolding kind encode_utf8 word_of word_front
brackets_64 = spelled nested_64 _ refl refl

brackets_65 : IsFault nested_65 130
unfolding kind encode_utf8 word_of word_front
brackets_65 = fault nested_65 130 refl

brackets_65_of_both : IsFault keys_in_calls 130
unfolding kind encode_utf8 word_of word_front
brackets_65_of_both = fault keys_in_calls 130 refl

closed_brackets : IsFault not_nested 135
unfolding kind encode_utf8 word_of word_front
closed_brackets = fault not_nested 135 refl

-- of two expressions that are too long the first is told
first_of_two : first_over (embedded null_literal 8192 ∷ embedded null_literal 8194 ∷ embedded null_literal 8193 ∷ []) ≡ Some 8194
first_of_two = refl

longest_whole : (s : List ℕ) (e : ExprTree) → length s ≡ 8193 → too_long s (whole_of e) ≡ None
longest_whole s e is = ap (λ n. over (n - 1) None) is

shortest_whole_refused : (s : List ℕ) (e : ExprTree) → length s ≡ 8194 → too_long s (whole_of e) ≡ Some 8193
shortest_whole_refused s e is = ap (λ n. over (n - 1) None) is

-- as a function of bytes; places count characters
by_bytes : template_in (195 ∷ 169 ∷ codes "@{1}") ≡ Some (parts (letters (195 ∷ 169 ∷ []) ∷ part (number_literal (pos 1)) ∷ []))
unfolding template_in chars kind encode_utf8
by_bytes = refl

none_by_bytes : template_in (codes "@1.5") ≡ None
unfolding template_in chars kind encode_utf8
none_by_bytes = refl

-- printed
printed_accesses : printed (index (member (index (text_literal (codes "it's")) null_literal false) (codes "$x_1") true) (boolean_literal true) true)
    ≡ codes "'it''s'[null]?.$x_1?[true]"
printed_accesses = refl

printed_arguments : printed (call (codes "f") (expr_then (boolean_literal false) (expr_then (call (codes "g") no_exprs) no_exprs)))
    ≡ codes "f(false,g())"
printed_arguments = refl

longest_allowed : over 8192 None ≡ None
longest_allowed = refl

shortest_refused : over 8193 None ≡ Some 8193
shortest_refused = refl
