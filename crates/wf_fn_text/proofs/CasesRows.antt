-- Rows of the functions toLower, toUpper and trim.
use lib.Utf8.{encode}
use Rattle.std.proofs.Common.{◌≡◌, refl, [], ◌∷◌, Ok, Err}
use Rattle.std.specs.Str.{chars, trim_start, trim_end}
use Rattle.wf_fn_text.specs.Cases.{to_lower_row, to_upper_row, trim_row}
use Rattle.wf_val.proofs.RowValues.{yes, plus, word, items}
use Rattle.wf_val.specs.ValueTree.{null, text}
use Rattle.wf_val.specs.declared.fault.EvalFault.{EvalFault}
use Rattle.wf_val.specs.declared.function.Fun.{Fun}

-- toLower: ASCII letters alone
to_lower-example : to_lower_row (word "Hello World" ∷ []) ≡ Ok (word "hello world")
to_lower-example = refl

to_lower-edges : to_lower_row (word "@AZ[`az{" ∷ []) ≡ Ok (word "@az[`az{")
to_lower-edges = refl

to_lower-empty : to_lower_row (word "" ∷ []) ≡ Ok (word "")
to_lower-empty = refl

to_lower-other_letters : to_lower_row (text (195 ∷ 137 ∷ 226 ∷ 132 ∷ 170 ∷ 196 ∷ 176 ∷ []) ∷ [])
    ≡ Ok (text (195 ∷ 137 ∷ 226 ∷ 132 ∷ 170 ∷ 196 ∷ 176 ∷ []))
to_lower-other_letters = refl

to_lower-number : to_lower_row (plus 1 ∷ []) ≡ Err (EvalFault.WrongType Fun.ToLower 1)
to_lower-number = refl

to_lower-null : to_lower_row (null ∷ []) ≡ Err (EvalFault.WrongType Fun.ToLower 1)
to_lower-null = refl

-- toUpper
to_upper-example : to_upper_row (word "Hello World" ∷ []) ≡ Ok (word "HELLO WORLD")
to_upper-example = refl

to_upper-edges : to_upper_row (word "@AZ[`az{" ∷ []) ≡ Ok (word "@AZ[`AZ{")
to_upper-edges = refl

to_upper-other_letters : to_upper_row (text (195 ∷ 159 ∷ 195 ∷ 169 ∷ 196 ∷ 177 ∷ 197 ∷ 191 ∷ []) ∷ [])
    ≡ Ok (text (195 ∷ 159 ∷ 195 ∷ 169 ∷ 196 ∷ 177 ∷ 197 ∷ 191 ∷ []))
to_upper-other_letters = refl

to_upper-list : to_upper_row (items [] ∷ []) ≡ Err (EvalFault.WrongType Fun.ToUpper 1)
to_upper-list = refl

-- trim: white space of Unicode at both ends
trim-example : trim_row (word " Hello World  " ∷ []) ≡ Ok (word "Hello World")
unfolding chars encode trim_start trim_end
trim-example = refl

trim-controls : trim_row (text (9 ∷ 10 ∷ 11 ∷ 12 ∷ 13 ∷ 97 ∷ 13 ∷ 10 ∷ []) ∷ []) ≡ Ok (word "a")
unfolding chars encode trim_start trim_end
trim-controls = refl

trim-inside : trim_row (word " a  b " ∷ []) ≡ Ok (word "a  b")
unfolding chars encode trim_start trim_end
trim-inside = refl

trim-all : trim_row (word "   " ∷ []) ≡ Ok (word "")
unfolding chars encode trim_start trim_end
trim-all = refl

trim-empty : trim_row (word "" ∷ []) ≡ Ok (word "")
unfolding chars encode trim_start trim_end
trim-empty = refl

trim-two_bytes : trim_row (text (194 ∷ 160 ∷ 194 ∷ 133 ∷ 120 ∷ 194 ∷ 160 ∷ []) ∷ []) ≡ Ok (word "x")
unfolding chars encode trim_start trim_end
trim-two_bytes = refl

trim-three_bytes : trim_row (text (225 ∷ 154 ∷ 128 ∷ 226 ∷ 128 ∷ 128 ∷ 226 ∷ 128 ∷ 138 ∷ 226 ∷ 128 ∷ 168 ∷ 226 ∷ 128 ∷ 169 ∷ 226 ∷ 128 ∷
    175 ∷ 226 ∷ 129 ∷ 159 ∷ 227 ∷ 128 ∷ 128 ∷ 120 ∷ 227 ∷ 128 ∷ 128 ∷ []) ∷ []) ≡ Ok (word "x")
unfolding chars encode trim_start trim_end
trim-three_bytes = refl

trim-no_width : trim_row (text (226 ∷ 128 ∷ 139 ∷ 120 ∷ 239 ∷ 187 ∷ 191 ∷ []) ∷ [])
    ≡ Ok (text (226 ∷ 128 ∷ 139 ∷ 120 ∷ 239 ∷ 187 ∷ 191 ∷ []))
unfolding chars encode trim_start trim_end
trim-no_width = refl

trim-separators : trim_row (text (28 ∷ 120 ∷ 31 ∷ []) ∷ []) ≡ Ok (text (28 ∷ 120 ∷ 31 ∷ []))
unfolding chars encode trim_start trim_end
trim-separators = refl

trim-truth : trim_row (yes ∷ []) ≡ Err (EvalFault.WrongType Fun.Trim 1)
trim-truth = refl
