-- The rows of a record that was read off a table, by the numbers of their actions, are those of the table.
use Rattle.std.proofs.Common.{◌≡◌, ℕ, true, false, List, [], ◌∷◌, map, Option, Some, None, option_map, is_eq, Ordering, Less}
use Rattle.std.proofs.Common.{Equal, Greater, inl, inr, refl, sym, ap, ap₂, ◌∙◌, subst, true≢false}
use Rattle.std.specs.Ordering.{ordering_then}
use Rattle.std.proofs.lemmas.Cmp.{tied_itself}
use Rattle.std.proofs.lemmas.Map.Lookups.{exact_bytes}
use Rattle.wf_val.specs.Address.{address_cmp, address_total}
use Rattle.wf_val.specs.NameOrder.{bytes_cmp}
use Rattle.wf_val.specs.declared.address.Address as named
use Rattle.wf_layers.specs.Address.{Address, Table}
use Rattle.wf_layers.specs.Definition.{has}
use Rattle.wf_layers.specs.Listed.{Among}
use Rattle.wf_layers.proofs.Basics.{two, unless, when}
use Rattle.wf_def.specs.DefTree.{DefTree}
use Rattle.wf_record.specs.Record.{Row, RowTree, find_row}
use Rattle.wf_turns.specs.Look.{instance, name_of}
use Rattle.wf_turns.specs.Points.{graph_of}
use Rattle.wf_turns.specs.Record.{rows_of}
use Rattle.wf_turns.specs.Resubmitted.{rows_by}
use Rattle.wf_meant_laws.specs.Listed.{Entry, StandFor, told_as}
use Rattle.wf_meant_laws.specs.Tables.{StandAtInstances}

tied_first : (o p : Ordering) → ordering_then o p ≡ Equal → o ≡ Equal
tied_first Less p is = cc
tied_first Equal p is = refl
tied_first Greater p is = cc

tied_second : (o p : Ordering) → ordering_then o p ≡ Equal → p ≡ Equal
tied_second Less p is = cc
tied_second Equal p is = is
tied_second Greater p is = cc

tied : (o : Ordering) → is_eq o ≡ true → o ≡ Equal
tied Less is = absurd (cc)
tied Equal is = refl
tied Greater is = absurd (cc)

-- addresses that tie are one
pub one_address : (a b : named.Address) → is_eq (address_cmp a b) ≡ true → a ≡ b
one_address a b is =
    let same = tied (address_cmp a b) is in
    ap₂ (λ (name at' : List ℕ). record { name = name; at = at' })
    (exact_bytes a.name b.name (tied_first (bytes_cmp a.name b.name) _ same))
    (exact_bytes a.at b.at (tied_second (bytes_cmp a.name b.name) _ same))

pub own_address : (a : named.Address) → is_eq (address_cmp a a) ≡ true
own_address a = ap is_eq (tied_itself address_total a)

module _ (d : DefTree) (one_number : (m n : ℕ) → has (graph_of d) m ≡ true → has (graph_of d) n ≡ true → name_of d m ≡ name_of d n → m ≡ n)
  where
    one_place : (x y : Address) → has (graph_of d) x.name ≡ true → has (graph_of d) y.name ≡ true → instance d x ≡ instance d y → x ≡ y
    one_place x y one other same =
        ap₂ (λ (n : ℕ) (at' : List ℕ). record { name = n; at = at' })
        (one_number x.name y.name one other (ap (λ (p : named.Address). p.name) same))
        (ap (λ (p : named.Address). p.at) same)

    -- what is found among the entries at an address is an entry of it
    pub data FoundAt (x : Address) (entries : List Entry) : Option RowTree → Type 0 where
      no_entry : ((e : Entry) → Among entries e → e.0 ≡ x → ⊥) → FoundAt x entries None
      one_entry : {r : RowTree} (e : Entry) → Among entries e → e.0 ≡ x → r ≡ told_as d e → FoundAt x entries (Some r)

    abbrev HasAll : List Entry → Type 0
    HasAll entries = (e : Entry) → Among entries e → has (graph_of d) e.0.name ≡ true

    found_at : (x : Address) → has (graph_of d) x.name ≡ true → (entries : List Entry) → HasAll entries
        → FoundAt x entries (find_row (instance d x) (map (told_as d) entries))
    found_at x there [] all = no_entry (λ e among. absurd among)
    found_at x there (e ∷ entries) all = elim (two (is_eq (address_cmp (instance d x) (instance d e.0)))) [
      | inl t ↦
          subst (FoundAt x (e ∷ entries))
          (sym (when (is_eq (address_cmp (instance d x) (instance d e.0))) (Some (told_as d e))
          (find_row (instance d x) (map (told_as d) entries)) t))
          (one_entry e (inl refl)
          (one_place e.0 x (all e (inl refl)) there (sym (one_address (instance d x) (instance d e.0) t))) refl)
      | inr f ↦
          subst (FoundAt x (e ∷ entries))
          (sym (unless (is_eq (address_cmp (instance d x) (instance d e.0))) (Some (told_as d e))
          (find_row (instance d x) (map (told_as d) entries)) f))
          (later f (find_row (instance d x) (map (told_as d) entries)) (found_at x there entries (λ o among. all o (inr among))))
    ]
      where
        not_it : is_eq (address_cmp (instance d x) (instance d e.0)) ≡ false → e.0 ≡ x → ⊥
        not_it f same =
            true≢false (sym (subst (λ (y : Address). is_eq (address_cmp (instance d x) (instance d y)) ≡ true) (sym same)
            (own_address (instance d x))) ∙ f)

        go : (o : Entry) → is_eq (address_cmp (instance d x) (instance d e.0)) ≡ false → ((q : Entry) → Among entries q → q.0 ≡ x → ⊥)
            → Among (e ∷ entries) o → o.0 ≡ x → ⊥
        go o f none (inl is) same = not_it f (ap (λ (q : Entry). q.0) is ∙ same)
        go o f none (inr among) same = none o among same

        later : is_eq (address_cmp (instance d x) (instance d e.0)) ≡ false → (o : Option RowTree) → FoundAt x entries o
            → FoundAt x (e ∷ entries) o
        later f _ (no_entry none) = no_entry (λ q among same. go q f none among same)
        later f _ (one_entry q among same is) = one_entry q (inr among) same is

    module _ (t : Table Row) (whole : StandAtInstances d t) (stand : StandFor d t) where
      all_had : HasAll stand.entries
      all_had e among = (whole e.0 e.1 (stand.all.each e among)).0

      of_found : (x : Address) (o : Option RowTree) → FoundAt x stand.entries o → option_map (λ (r : RowTree). r.row) o ≡ t x
      of_found x _ (no_entry none) = empty (t x) refl
        where
          empty : (row : Option Row) → t x ≡ row → None ≡ t x
          empty None is = sym is
          empty (Some row) is = let found = stand.all.all x row is in absurd (none found.0 found.1 found.2)
      of_found x _ (one_entry e among same is) =
          ap (λ (q : RowTree). Some q.row) is ∙ (sym (stand.all.each e among) ∙ ap t same)

      -- THE LAW
      pub rows_back : (x : Address) → has (graph_of d) x.name ≡ true → rows_by d (rows_of d t) x ≡ t x
      rows_back x there =
          ap (λ (rows : List RowTree). option_map (λ (r : RowTree). r.row) (find_row (instance d x) rows)) stand.told
          ∙ of_found x (find_row (instance d x) (map (told_as d) stand.entries)) (found_at x there stand.entries all_had)
