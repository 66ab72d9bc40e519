-- Nested pieces, and what they say behind tags of a kind, part by part.
use Rattle.std.proofs.Common.{◌≡◌, ℕ, Bool, false, List, [], ◌∷◌, ◌++◌, cond, flat_map, refl, sym, ap, ◌∙◌, subst}
use Rattle.std.proofs.Common.{append_assoc, append-nil}
use Rattle.wf_html.proofs.NestedLemmas.{nested_append}
use Rattle.wf_html.specs.Behind.{said_behind, said_first}
use Rattle.wf_html.specs.Html.{Piece, opened, closed, said, with_text}
use Rattle.wf_html.specs.Nested.{IsNested, nothing, text, tag}
use Rattle.wf_html.specs.declared.tag.Tag.{Tag}

abbrev pub Texts : Type 0
Texts = List (List ℕ)

-- what stands first of pieces that are closed doesn't hang on what follows
first_of_closed : (inside : List Piece) (t : Tag) (rest qs : List Piece) → IsNested inside
    → said_first (inside ++ closed t ∷ rest) ≡ said_first (inside ++ closed t ∷ qs)
first_of_closed inside t rest qs nothing = refl
first_of_closed inside t rest qs (text x ps after) = refl
first_of_closed inside t rest qs (tag s ps after one two) = refl

pub behind_append : (is : Tag → Bool) (ps qs : List Piece) → IsNested ps
    → said_behind is (ps ++ qs) ≡ said_behind is ps ++ said_behind is qs
behind_append is ps qs nothing = refl
behind_append is ps qs (text x rest after) = behind_append is rest qs after
behind_append is ps qs (tag t inside rest one after) =
    let one_first = first_of_closed inside t (rest ++ qs) rest one in
    let behind : said_behind is (inside ++ closed t ∷ (rest ++ qs)) ≡ said_behind is (inside ++ closed t ∷ rest) ++ said_behind is qs =
    behind_append is inside (closed t ∷ (rest ++ qs)) one ∙ ap (λ (x : Texts). said_behind is inside ++ x) (behind_append is rest qs after)
    ∙ sym (append_assoc (said_behind is inside) (said_behind is rest) (said_behind is qs))
    ∙ ap (λ (x : Texts). x ++ said_behind is qs) (sym (behind_append is inside (closed t ∷ rest) one)) in
    ap (λ (x : List Piece). cond (is t) (said_first x) [] ++ said_behind is x) (append_assoc inside (closed t ∷ rest) qs)
    ∙ ap (λ (x : Texts). cond (is t) x [] ++ said_behind is (inside ++ closed t ∷ (rest ++ qs))) one_first
    ∙ ap (λ (x : Texts). cond (is t) (said_first (inside ++ closed t ∷ rest)) [] ++ x) behind
    ∙ sym (append_assoc (cond (is t) (said_first (inside ++ closed t ∷ rest)) []) (said_behind is (inside ++ closed t ∷ rest))
    (said_behind is qs))

-- pieces that are nested, and say these texts behind tags of a kind
pub record Says (is : Tag → Bool) (ps : List Piece) (texts : Texts) : Type 0 where
  pub nested : IsNested ps
  pub said : said_behind is ps ≡ texts

pub says_nothing : (is : Tag → Bool) → Says is [] []
says_nothing is = record { nested = nothing; said = refl }

pub says_append : (is : Tag → Bool) (ps qs : List Piece) (a b : Texts) → Says is ps a → Says is qs b → Says is (ps ++ qs) (a ++ b)
says_append is ps qs a b one other = record {
  nested = nested_append ps qs one.nested other.nested;
  said =
      behind_append is ps qs one.nested ∙ ap (λ (x : Texts). x ++ said_behind is qs) one.said ∙ ap (λ (x : Texts). a ++ x) other.said;
}

pub says_each : {A : Type 0} (is : Tag → Bool) (f : A → List Piece) (g : A → Texts) → ((x : A) → Says is (f x) (g x)) → (xs : List A)
    → Says is (flat_map f xs) (flat_map g xs)
says_each is f g one [] = says_nothing is
says_each is f g one (x ∷ xs) = says_append is (f x) (flat_map f xs) (g x) (flat_map g xs) (one x) (says_each is f g one xs)

-- a text alone in a tag
pub says_text : (is : Tag → Bool) (t : Tag) (x : List ℕ) → Says is (with_text t x) (cond (is t) (x ∷ []) [])
says_text is t x = record { nested = tag t (said x ∷ []) [] (text x [] nothing) nothing; said = append-nil (cond (is t) (x ∷ []) []) }

pub says_quietly : (is : Tag → Bool) (t : Tag) (x : List ℕ) → is t ≡ false → Says is (with_text t x) []
says_quietly is t x other = subst (λ q. Says is (with_text t x) (cond q (x ∷ []) [])) other (says_text is t x)

-- a text between tags
pub says_said : (is : Tag → Bool) (x : List ℕ) (ps : List Piece) (a : Texts) → Says is ps a → Says is (said x ∷ ps) a
says_said is x ps a after = record { nested = text x ps after.nested; said = after.said }

-- ---- pieces of a tag that has opened, up to the one that closes it, and others behind that

pub record Ends (is : Tag → Bool) (t : Tag) (ps rest : List Piece) (texts : Texts) : Type 0 where
  pub inner : List Piece
  pub says : Says is inner texts
  pub whole : ps ≡ inner ++ closed t ∷ rest

pub ends : (is : Tag → Bool) (t : Tag) (rest : List Piece) → Ends is t (closed t ∷ rest) rest []
ends is t rest = record { inner = []; says = says_nothing is; whole = refl }

pub ends_after : (is : Tag → Bool) (t : Tag) (ps qs rest : List Piece) (a b : Texts) → Says is ps a → Ends is t qs rest b
    → Ends is t (ps ++ qs) rest (a ++ b)
ends_after is t ps qs rest a b one after = record {
  inner = ps ++ after.inner;
  says = says_append is ps after.inner a b one after.says;
  whole = ap (λ x. ps ++ x) after.whole ∙ sym (append_assoc ps after.inner (closed t ∷ rest));
}

-- pieces in a tag that isn't of the kind
pub opens : (is : Tag → Bool) (t : Tag) (ps : List Piece) (a : Texts) → is t ≡ false → Ends is t ps [] a → Says is (opened t ∷ ps) a
opens is t ps a other within = record {
  nested = subst (λ x. IsNested (opened t ∷ x)) (sym within.whole) (tag t within.inner [] within.says.nested nothing);
  said =
      ap (λ q. cond q (said_first ps) [] ++ said_behind is ps) other ∙ ap (said_behind is) within.whole
      ∙ behind_append is within.inner (closed t ∷ []) within.says.nested ∙ append-nil (said_behind is within.inner) ∙ within.says.said;
}

pub says_in : (is : Tag → Bool) (t : Tag) (ps : List Piece) (a : Texts) → is t ≡ false → Says is ps a
    → Says is (opened t ∷ ps ++ closed t ∷ []) a
says_in is t ps a other within =
    opens is t (ps ++ closed t ∷ []) a other (record { inner = ps; says = within; whole = refl })

-- where one tag stands last in another
pub ends_in : (is : Tag → Bool) (s t : Tag) (ps rest : List Piece) (a : Texts) → is s ≡ false → Ends is s ps (closed t ∷ rest) a
    → Ends is t (opened s ∷ ps) rest a
ends_in is s t ps rest a other within = record {
  inner = opened s ∷ within.inner ++ closed s ∷ [];
  says = says_in is s within.inner a other within.says;
  whole = ap (λ x. opened s ∷ x) (within.whole ∙ sym (append_assoc within.inner (closed s ∷ []) (closed t ∷ rest)));
}
