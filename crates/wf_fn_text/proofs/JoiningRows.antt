-- Rows of the function concat.
use Rattle.std.proofs.Common.{◌≡◌, refl, [], ◌∷◌, Ok}
use Rattle.wf_fn_text.specs.Joining.{concat_row}
use Rattle.wf_val.proofs.RowValues.{word}
use Rattle.wf_val.specs.ValueTree.{text}

-- concat
concat-example : concat_row (word "Hello" ∷ word "World" ∷ []) ≡ Ok (word "HelloWorld")
concat-example = refl

concat-one : concat_row (word "a" ∷ []) ≡ Ok (word "a")
concat-one = refl

concat-empties : concat_row (word "" ∷ word "ab" ∷ word "" ∷ word "c" ∷ word "" ∷ []) ≡ Ok (word "abc")
concat-empties = refl

concat-nothing : concat_row (word "" ∷ word "" ∷ []) ≡ Ok (word "")
concat-nothing = refl

concat-other_letters : concat_row (text (195 ∷ 169 ∷ []) ∷ text (240 ∷ 159 ∷ 152 ∷ 128 ∷ []) ∷ [])
    ≡ Ok (text (195 ∷ 169 ∷ 240 ∷ 159 ∷ 152 ∷ 128 ∷ []))
concat-other_letters = refl
