-- What the outputs of an action on variables tell, they give: and the other way round.
use Rattle.std.proofs.Common.{◌≡◌, ℕ, Bool, true, false, ◌&&◌, ◌||◌, List, [], ◌∷◌, map, Option, Some, None, inl, inr, refl, sym, ap, ap₂}
use Rattle.std.proofs.Common.{◌∙◌, subst, true≢false}
use Rattle.std.specs.Prelude.{bytes_eq, codes}
use Rattle.std.specs.List.{list_any}
use Rattle.std.proofs.lemmas.Option.{none-some}
use Rattle.std.proofs.lemmas.Slice.Eq.{bytes_eq-Decides}
use Rattle.wf_layers.proofs.Basics.{and_in, and_of, either, two, unless, when}
use Rattle.wf_val.specs.ValueTree.{Member, MemberTrees, ValueTree, ValueTrees, boolean, items, list, member_then, members, no_members}
use Rattle.wf_val.specs.ValueTree.{no_values, null, number, object, pairs, text, trees, value_then}
use Rattle.wf_val.proofs.ValueTreeLemmas.{items-trees}
use Rattle.wf_def.specs.ActionTree.{InitialTree}
use Rattle.wf_def.specs.Sorts.{has_sort}
use Rattle.wf_def.specs.declared.sort.Sort.{Sort}
use Rattle.wf_shaped.specs.Made.{one_member}
use Rattle.wf_shaped.specs.Given.{gives, item_value, items_value, or_else}
use Rattle.wf_shaped.specs.Initials.{body_of, given_item}
use Rattle.wf_shaped.specs.VariablesRows.{AreItems, GivesAll, GivesOne, IsItem}
use Rattle.wf_shaped.specs.Says.{Variable, body_in, initialized, is_name_of, is_of, sole_body, tells, tells_body, tells_each}
use Rattle.wf_shaped.specs.Says.{tells_initials, tells_list, tells_members, tells_one, tells_told}

pub same_name : (k n : List ℕ) → bytes_eq k n ≡ true → k ≡ n
same_name k n e = (bytes_eq-Decides k n).0 e

own_name : (k : List ℕ) → bytes_eq k k ≡ true
own_name k = (bytes_eq-Decides k k).1 refl

members-pairs : (ms : MemberTrees) → members (pairs ms) ≡ ms
members-pairs no_members = refl
members-pairs (member_then k t ms) = ap (member_then k t) (members-pairs ms)

trees-items : (ts : ValueTrees) → trees (items ts) ≡ ts
trees-items no_values = refl
trees-items (value_then t ts) = ap (value_then t) (trees-items ts)

-- ---- one variable

name_text : (name : List ℕ) (t : ValueTree) → is_name_of name t ≡ true → t ≡ text name
name_text name (text s) is = ap text (same_name s name is)
name_text name null is = absurd (true≢false (sym is))
name_text name (boolean b) is = absurd (true≢false (sym is))
name_text name (number n) is = absurd (true≢false (sym is))
name_text name (list ts) is = absurd (true≢false (sym is))
name_text name (object ms) is = absurd (true≢false (sym is))

-- it is told exactly, with a value of its type, where it has one
pub record TellsItem (v : Variable) (t : ValueTree) : Type 0 where
  pub sort : Sort
  pub typed : v.1 ≡ Some sort
  pub item : IsItem v.0 sort t

of_sort : (v : Variable) (o : Option Sort) (x t : ValueTree) → v.1 ≡ o → is_of o x ≡ true → t ≡ given_item v.0 x → TellsItem v t
of_sort v None x t typed is same = absurd (true≢false (sym is))
of_sort v (Some s) x t typed is same = record { sort = s; typed = typed; item = (x, same, is) }

told_members : (v : Variable) (ms : List Member) → tells_members v ms ≡ true → TellsItem v (object (members ms))
told_members v [] is = absurd (true≢false (sym is))
told_members v (a ∷ []) is = absurd (true≢false (sym is))
told_members v (a ∷ b ∷ []) is =
    let inner = is_name_of v.0 a.1 && (bytes_eq b.0 (codes "value") && is_of v.1 b.1) in
    let first = and_in (bytes_eq a.0 (codes "name")) inner is in
    let next = and_in (is_name_of v.0 a.1) (bytes_eq b.0 (codes "value") && is_of v.1 b.1) first.1 in
    let last = and_in (bytes_eq b.0 (codes "value")) (is_of v.1 b.1) next.1 in
    of_sort v v.1 b.1 (object (members (a ∷ b ∷ []))) refl last.1
    (ap₂ (λ (k : List ℕ) (l : List ℕ). object (member_then k a.1 (member_then l b.1 no_members)))
    (same_name a.0 (codes "name") first.0) (same_name b.0 (codes "value") last.0)
    ∙ ap (λ (x : ValueTree). object (member_then (codes "name") x (member_then (codes "value") b.1 no_members)))
    (name_text v.0 a.1 next.0))
told_members v (a ∷ b ∷ c ∷ ms) is = absurd (true≢false (sym is))

told_item : (v : Variable) (t : ValueTree) → tells v t ≡ true → TellsItem v t
told_item v (object ms) is =
    subst (λ (ns : MemberTrees). TellsItem v (object ns)) (members-pairs ms) (told_members v (pairs ms) is)
told_item v null is = absurd (true≢false (sym is))
told_item v (boolean b) is = absurd (true≢false (sym is))
told_item v (number n) is = absurd (true≢false (sym is))
told_item v (text s) is = absurd (true≢false (sym is))
told_item v (list ts) is = absurd (true≢false (sym is))

some_sort : (a b : Sort) → Some a ≡ Some b → a ≡ b
some_sort a b is = cc

initial_item : (i : InitialTree) (t : ValueTree) → tells (initialized i) t ≡ true → IsItem i.name i.sort t
initial_item i t is =
    let item = told_item (initialized i) t is in
    subst (λ (s : Sort). IsItem i.name s t) (some_sort item.sort i.sort (sym item.typed)) item.item

-- and what is given so is told
item_told : (k : List ℕ) (s : Sort) (t : ValueTree) → IsItem k s t → tells (k, Some s) t ≡ true
item_told k s t item =
    subst (λ (u : ValueTree). tells (k, Some s) u ≡ true) (sym item.1)
    (and_of (is_name_of k (text k)) (is_of (Some s) item.0) (own_name k) item.2)

-- ---- several

told_items : (is : List InitialTree) (ts : List ValueTree) → tells_each (map initialized is) ts ≡ true → AreItems is ts
told_items [] [] told = tt
told_items [] (t ∷ ts) told = absurd (true≢false (sym told))
told_items (i ∷ is) [] told = absurd (true≢false (sym told))
told_items (i ∷ is) (t ∷ ts) told =
    let both = and_in (tells (initialized i) t) (tells_each (map initialized is) ts) told in
    (initial_item i t both.0, told_items is ts both.1)

items_told : (is : List InitialTree) (ts : List ValueTree) → AreItems is ts → tells_each (map initialized is) ts ≡ true
items_told [] [] are = refl
items_told [] (t ∷ ts) are = absurd are
items_told (i ∷ is) [] are = absurd are
items_told (i ∷ is) (t ∷ ts) are =
    and_of (tells (initialized i) t) (tells_each (map initialized is) ts) (item_told i.name i.sort t are.0) (items_told is ts are.1)

-- ---- outputs that are a body alone

sole_is : (ms : List Member) (t : ValueTree) → sole_body ms ≡ Some t → object (members ms) ≡ one_member (codes "body") t
sole_is [] t is = absurd (none-some t is)
sole_is (m ∷ []) t is = elim (two (bytes_eq m.0 (codes "body"))) [
  | inl h ↦
      let value : m.1 ≡ t = same_some (sym (when (bytes_eq m.0 (codes "body")) (Some m.1) None h) ∙ is) in
      ap₂ (λ (k : List ℕ) (x : ValueTree). object (member_then k x no_members)) (same_name m.0 (codes "body") h) value
  | inr f ↦ absurd (none-some t (sym (unless (bytes_eq m.0 (codes "body")) (Some m.1) None f) ∙ is))
]
  where
    same_some : {x y : ValueTree} → Some x ≡ Some y → x ≡ y
    same_some e = cc (e)
sole_is (m ∷ n ∷ ms) t is = absurd (none-some t is)

body_is : (outputs t : ValueTree) → body_in outputs ≡ Some t → outputs ≡ one_member (codes "body") t
body_is (object ms) t is = ap object (sym (members-pairs ms)) ∙ sole_is (pairs ms) t is
body_is null t is = absurd (none-some t is)
body_is (boolean b) t is = absurd (none-some t is)
body_is (number n) t is = absurd (none-some t is)
body_is (text s) t is = absurd (none-some t is)
body_is (list ts) t is = absurd (none-some t is)

-- as a list, whose items are as many as the variables
several_given : (i j : InitialTree) (is : List InitialTree) (ts : List ValueTree) → AreItems (i ∷ j ∷ is) ts → list (trees ts) ≡ body_of ts
several_given i j is [] are = absurd are
several_given i j is (t ∷ []) are = absurd are.1
several_given i j is (t ∷ u ∷ ts) are = refl

list_given : (i j : InitialTree) (is : List InitialTree) (t outputs : ValueTree) → outputs ≡ one_member (codes "body") t
    → tells_list (map initialized (i ∷ j ∷ is)) t ≡ true → GivesAll (i ∷ j ∷ is) outputs
list_given i j is (list ts) outputs same told =
    let are = told_items (i ∷ j ∷ is) (items ts) told in (
      items ts,
      are,
      same ∙ ap (one_member (codes "body")) (ap list (sym (trees-items ts)) ∙ several_given i j is (items ts) are),
    )
list_given i j is null outputs same told = absurd (true≢false (sym told))
list_given i j is (boolean b) outputs same told = absurd (true≢false (sym told))
list_given i j is (number n) outputs same told = absurd (true≢false (sym told))
list_given i j is (text s) outputs same told = absurd (true≢false (sym told))
list_given i j is (object ms) outputs same told = absurd (true≢false (sym told))

body_given : (is : List InitialTree) (t outputs : ValueTree) → outputs ≡ one_member (codes "body") t
    → tells_body (map initialized is) t ≡ true → GivesAll is outputs
body_given [] (list no_values) outputs same told = ([], tt, same)
body_given [] (list (value_then t ts)) outputs same told = absurd (true≢false (sym told))
body_given [] null outputs same told = absurd (true≢false (sym told))
body_given [] (boolean b) outputs same told = absurd (true≢false (sym told))
body_given [] (number n) outputs same told = absurd (true≢false (sym told))
body_given [] (text s) outputs same told = absurd (true≢false (sym told))
body_given [] (object ms) outputs same told = absurd (true≢false (sym told))
body_given (i ∷ []) t outputs same told = (t ∷ [], (initial_item i t told, tt), same)
body_given (i ∷ j ∷ is) t outputs same told = list_given i j is t outputs same told

pub initials_given : (i : InitialTree) (is : List InitialTree) (outputs : ValueTree) → tells_initials (i ∷ is) outputs ≡ true
    → GivesAll (i ∷ is) outputs
initials_given i is outputs told = at (body_in outputs) refl told
  where
    at : (o : Option ValueTree) → body_in outputs ≡ o → tells_told (map initialized (i ∷ is)) o ≡ true → GivesAll (i ∷ is) outputs
    at None body is' = absurd (true≢false (sym is'))
    at (Some t) body is' = body_given (i ∷ is) t outputs (body_is outputs t body) is'

-- of one that is changed: it has a type
pub record TellsOne (k : List ℕ) (sort : Option Sort) (outputs : ValueTree) : Type 0 where
  pub type' : Sort
  pub typed : sort ≡ Some type'
  pub given : GivesOne k type' outputs

pub one_given : (k : List ℕ) (sort : Option Sort) (outputs : ValueTree) → tells_one k sort outputs ≡ true → TellsOne k sort outputs
one_given k sort outputs told = at (body_in outputs) refl told
  where
    at : (o : Option ValueTree) → body_in outputs ≡ o → tells_told ((k, sort) ∷ []) o ≡ true → TellsOne k sort outputs
    at None body is' = absurd (true≢false (sym is'))
    at (Some t) body is' =
        let item = told_item (k, sort) t is' in
        record { type' = item.sort; typed = item.typed; given = (t, item.item, body_is outputs t body) }

-- ---- what is given is told

body_own : (t : ValueTree) → body_in (one_member (codes "body") t) ≡ Some t
body_own t = refl

pub one_told : (k : List ℕ) (s : Sort) (outputs : ValueTree) → GivesOne k s outputs → tells_one k (Some s) outputs ≡ true
one_told k s outputs given =
    subst (λ (u : ValueTree). tells_one k (Some s) u ≡ true) (sym given.2) (item_told k s given.0 given.1)

several_told : (is : List InitialTree) (ts : List ValueTree) → AreItems is ts → tells_body (map initialized is) (body_of ts) ≡ true
several_told [] [] are = refl
several_told [] (t ∷ ts) are = absurd are
several_told (i ∷ is) [] are = absurd are
several_told (i ∷ []) (t ∷ []) are = item_told i.name i.sort t are.0
several_told (i ∷ []) (t ∷ u ∷ ts) are = absurd are.1
several_told (i ∷ j ∷ is) (t ∷ []) are = absurd are.1
several_told (i ∷ j ∷ is) (t ∷ u ∷ ts) are =
    ap (tells_each (map initialized (i ∷ j ∷ is))) (items-trees (t ∷ u ∷ ts)) ∙ items_told (i ∷ j ∷ is) (t ∷ u ∷ ts) are

pub initials_told : (is : List InitialTree) (outputs : ValueTree) → GivesAll is outputs → tells_initials is outputs ≡ true
initials_told [] outputs given = refl
initials_told (i ∷ is) outputs given =
    subst (λ (u : ValueTree). tells_initials (i ∷ is) u ≡ true) (sym given.2) (several_told (i ∷ is) given.0 given.1)

-- ---- what outputs give a variable

abbrev pub IsFound : Type 0
IsFound = (k : List ℕ) (v : ValueTree) → gives k (one_member (codes "body") (given_item k v)) ≡ Some v

-- a value of which this is known
pub record GivesOf (k : List ℕ) (Typed : ValueTree → Type 0) (outputs : ValueTree) : Type 0 where
  pub value : ValueTree
  pub given : gives k outputs ≡ Some value
  pub typed : Typed value

module _ (found : IsFound) (k : List ℕ) (Typed : ValueTree → Type 0) where
  pub one_gives : (s : Sort) (outputs : ValueTree) → ((v : ValueTree) → has_sort s v ≡ true → Typed v) → GivesOne k s outputs
      → GivesOf k Typed outputs
  one_gives s outputs of given = record {
    value = given.1.0;
    given = ap (gives k) (given.2 ∙ ap (one_member (codes "body")) given.1.1) ∙ found k given.1.0;
    typed = of given.1.0 given.1.2;
  }

  -- of several the first of the name; so it is to be known of all of the name
  abbrev pub AllOf : List InitialTree → Type 0
  AllOf [] = Unit {0}
  AllOf (i ∷ is) = (bytes_eq k i.name ≡ true → (v : ValueTree) → has_sort i.sort v ≡ true → Typed v) × AllOf is

  record FoundItem (o : Option ValueTree) : Type 0 where
    value : ValueTree
    given : o ≡ Some value
    typed : Typed value

  item_found : (n : List ℕ) (t v : ValueTree) → bytes_eq k n ≡ true → t ≡ given_item n v → item_value k t ≡ Some v
  item_found n t v is same =
      ap (item_value k) (same ∙ ap (λ (q : List ℕ). given_item q v) (sym (same_name k n is))) ∙ found k v

  turned : (n : List ℕ) → bytes_eq k n ≡ false → bytes_eq n k ≡ false
  turned n apart = elim (two (bytes_eq n k)) [
    | inl t ↦ absurd (true≢false (sym ((bytes_eq-Decides k n).1 (sym (same_name n k t))) ∙ apart))
    | inr f ↦ f
  ]

  -- an item of another name gives it nothing
  item_other : (n : List ℕ) (t v : ValueTree) → bytes_eq k n ≡ false → t ≡ given_item n v → item_value k t ≡ None
  item_other n t v other same = ap (item_value k) same ∙ unless (bytes_eq n k) (Some v) None (turned n other)

  later_among : (n : List ℕ) (ns : List (List ℕ)) → bytes_eq k n ≡ false → list_any (bytes_eq k) (n ∷ ns) ≡ true
      → list_any (bytes_eq k) ns ≡ true
  later_among n ns other among = ap (λ (b : Bool). b || list_any (bytes_eq k) ns) (sym other) ∙ among

  items_give : (is : List InitialTree) (ts : List ValueTree) → AllOf is → AreItems is ts
      → list_any (bytes_eq k) (map (λ i. i.name) is) ≡ true → FoundItem (items_value k ts)
  items_give [] [] of are among = absurd (true≢false (sym among))
  items_give [] (t ∷ ts) of are among = absurd are
  items_give (i ∷ is) [] of are among = absurd are
  items_give (i ∷ is) (t ∷ ts) of are among = elim (two (bytes_eq k i.name)) [
    | inl h ↦ record {
      value = are.0.0;
      given = ap (λ (o : Option ValueTree). or_else o (items_value k ts)) (item_found i.name t are.0.0 h are.0.1);
      typed = of.0 h are.0.0 are.0.2;
    }
    | inr f ↦
        let later : FoundItem (items_value k ts) =
        items_give is ts of.1 are.1 (later_among i.name (map (λ j. j.name) is) f among) in record {
          value = later.value;
          given = ap (λ (o : Option ValueTree). or_else o (items_value k ts)) (item_other i.name t are.0.0 f are.0.1) ∙ later.given;
          typed = later.typed;
        }
  ]

  body_gives : (is : List InitialTree) (ts : List ValueTree) → AllOf is → AreItems is ts
      → list_any (bytes_eq k) (map (λ i. i.name) is) ≡ true → GivesOf k Typed (one_member (codes "body") (body_of ts))
  body_gives [] [] of are among = absurd (true≢false (sym among))
  body_gives [] (t ∷ ts) of are among = absurd are
  body_gives (i ∷ is) [] of are among = absurd are
  body_gives (i ∷ []) (t ∷ []) of are among = elim (either (bytes_eq k i.name) false among) [
    | inl h ↦ record {
      value = are.0.0;
      given =
          ap (λ (q : ValueTree). gives k (one_member (codes "body") q))
          (are.0.1 ∙ ap (λ (q : List ℕ). given_item q are.0.0) (sym (same_name k i.name h))) ∙ found k are.0.0;
      typed = of.0 h are.0.0 are.0.2;
    }
    | inr f ↦ absurd (true≢false (sym f))
  ]
  body_gives (i ∷ []) (t ∷ u ∷ ts) of are among = absurd are.1
  body_gives (i ∷ j ∷ is) (t ∷ []) of are among = absurd are.1
  body_gives (i ∷ j ∷ is) (t ∷ u ∷ ts) of are among =
      let f : FoundItem (items_value k (t ∷ u ∷ ts)) = items_give (i ∷ j ∷ is) (t ∷ u ∷ ts) of are among in record {
        value = f.value;
        given = ap (items_value k) (items-trees (t ∷ u ∷ ts)) ∙ f.given;
        typed = f.typed;
      }

  pub all_give : (is : List InitialTree) (outputs : ValueTree) → AllOf is → GivesAll is outputs
      → list_any (bytes_eq k) (map (λ i. i.name) is) ≡ true → GivesOf k Typed outputs
  all_give is outputs of given among =
      subst (GivesOf k Typed) (sym given.2) (body_gives is given.0 of given.1 among)
