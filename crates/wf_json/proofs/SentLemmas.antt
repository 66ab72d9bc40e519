-- The text of a value that is sent, and its parts.
use Rattle.std.proofs.Common.{◌≡◌, ℕ, suc, pos, negsuc, List, [], ◌∷◌, ◌++◌, length, true, false, flat_map, inl, inr, refl, ap, ap₂, sym}
use Rattle.std.proofs.Common.{◌∙◌, subst, append_assoc, ne_eqb}
use Rattle.std.proofs.lemmas.Bool.{cases_eq}
use Rattle.json.specs.Print.{escape_byte, quoted}
use Rattle.serde_json.specs.Written.{has_float, items_have_float, members_have_float, compact_text, items_text, members_text}
use Rattle.serde_json.specs.Events.{items_len, members_len}
use Rattle.wf_val.specs.ValueTree as value
use Rattle.wf_json.specs.Json.{escaped, string, json, values, more_values, members, more_members}
use Rattle.wf_json.specs.Sent.{data_of, items_of, members_of}

mutual
  pub no_float : (t : value.ValueTree) → has_float (data_of t) ≡ false
  no_float value.null = refl
  no_float (value.boolean b) = refl
  no_float (value.number (pos n)) = refl
  no_float (value.number (negsuc n)) = refl
  no_float (value.text s) = refl
  no_float (value.list ts) = no_item_float ts
  no_float (value.object ms) = no_member_float ms

  no_item_float : (ts : value.ValueTrees) → items_have_float (items_of ts) ≡ false
  no_item_float value.no_values = refl
  no_item_float (value.value_then t ts) = rw (no_float t) (no_item_float ts)

  no_member_float : (ms : value.MemberTrees) → members_have_float (members_of ms) ≡ false
  no_member_float value.no_members = refl
  no_member_float (value.member_then k t ms) = rw (no_float t) (no_member_float ms)

pub items_len-trees : (ts : List value.ValueTree) → items_len (items_of (value.trees ts)) ≡ length ts
items_len-trees [] = refl
items_len-trees (t ∷ ts) = ap suc (items_len-trees ts)

pub members_len-members : (ms : List value.Member) → members_len (members_of (value.members ms)) ≡ length ms
members_len-members [] = refl
members_len-members (m ∷ ms) = ap suc (members_len-members ms)

-- the escapes of `json` are those of the standard
escaped-is : (x : ℕ) → escape_byte x ≡ escaped x
unfolding escape_byte
escaped-is x = elim (cases_eq x 34) [
  | inl e ↦ subst (λ y. escape_byte y ≡ escaped y) (sym e) refl
  | inr quote ↦ elim (cases_eq x 92) [
    | inl e ↦ subst (λ y. escape_byte y ≡ escaped y) (sym e) refl
    | inr backslash ↦ elim (cases_eq x 8) [
      | inl e ↦ subst (λ y. escape_byte y ≡ escaped y) (sym e) refl
      | inr backspace ↦ elim (cases_eq x 12) [
        | inl e ↦ subst (λ y. escape_byte y ≡ escaped y) (sym e) refl
        | inr form_feed ↦ elim (cases_eq x 10) [
          | inl e ↦ subst (λ y. escape_byte y ≡ escaped y) (sym e) refl
          | inr line_feed ↦ elim (cases_eq x 13) [
            | inl e ↦ subst (λ y. escape_byte y ≡ escaped y) (sym e) refl
            | inr carriage_return ↦ elim (cases_eq x 9) [
              | inl e ↦ subst (λ y. escape_byte y ≡ escaped y) (sym e) refl
              | inr tab ↦ rw (
                ne_eqb x 34 quote,
                ne_eqb x 92 backslash,
                ne_eqb x 8 backspace,
                ne_eqb x 12 form_feed,
                ne_eqb x 10 line_feed,
                ne_eqb x 13 carriage_return,
                ne_eqb x 9 tab,
              ) refl
            ]
          ]
        ]
      ]
    ]
  ]
]

escaped-all : (s : List ℕ) → flat_map escape_byte s ≡ flat_map escaped s
escaped-all [] = refl
escaped-all (x ∷ s) = ap₂ (λ (a b : List ℕ). a ++ b) (escaped-is x) (escaped-all s)

pub quoted-string : (s : List ℕ) → quoted s ≡ string s
quoted-string s = ap (λ t. 34 ∷ (t ++ 34 ∷ [])) (escaped-all s)

-- a name, a colon, a value and what follows, before the end
member-assoc : (name this more end : List ℕ) → name ++ (58 ∷ (this ++ (more ++ end))) ≡ (name ++ (58 ∷ (this ++ more))) ++ end
member-assoc name this more end =
    sym (append_assoc name (58 ∷ (this ++ more)) end ∙ ap (λ t. name ++ (58 ∷ t)) (append_assoc this more end))

mutual
  pub compact-json : (t : value.ValueTree) → compact_text (data_of t) ≡ json t
  compact-json value.null = refl
  compact-json (value.boolean true) = refl
  compact-json (value.boolean false) = refl
  compact-json (value.number (pos n)) = refl
  compact-json (value.number (negsuc n)) = refl
  compact-json (value.text s) = quoted-string s
  compact-json (value.list ts) = ap (λ t. 91 ∷ t) (items-values ts)
  compact-json (value.object ms) = ap (λ t. 123 ∷ t) (members-first ms)

  items-values : (ts : value.ValueTrees) → items_text false (items_of ts) ≡ values ts ++ 93 ∷ []
  items-values value.no_values = refl
  items-values (value.value_then t ts) =
      ap₂ (λ (a b : List ℕ). a ++ b) (compact-json t) (items-more ts) ∙ sym (append_assoc (json t) (more_values ts) (93 ∷ []))

  items-more : (ts : value.ValueTrees) → items_text true (items_of ts) ≡ more_values ts ++ 93 ∷ []
  items-more value.no_values = refl
  items-more (value.value_then t ts) =
      ap (λ s. 44 ∷ s) (ap₂ (λ (a b : List ℕ). a ++ b) (compact-json t) (items-more ts) ∙ sym
      (append_assoc (json t) (more_values ts) (93 ∷ [])))

  members-first : (ms : value.MemberTrees) → members_text false (members_of ms) ≡ members ms ++ 125 ∷ []
  members-first value.no_members = refl
  members-first (value.member_then k t ms) =
      ap₂ (λ (a b : List ℕ). a ++ (58 ∷ b)) (quoted-string k) (ap₂ (λ (a b : List ℕ). a ++ b) (compact-json t) (members-more ms))
      ∙ member-assoc (string k) (json t) (more_members ms) (125 ∷ [])

  members-more : (ms : value.MemberTrees) → members_text true (members_of ms) ≡ more_members ms ++ 125 ∷ []
  members-more value.no_members = refl
  members-more (value.member_then k t ms) =
      ap (λ s. 44 ∷ s) (ap₂ (λ (a b : List ℕ). a ++ (58 ∷ b)) (quoted-string k)
      (ap₂ (λ (a b : List ℕ). a ++ b) (compact-json t) (members-more ms))
      ∙ member-assoc (string k) (json t) (more_members ms) (125 ∷ []))
