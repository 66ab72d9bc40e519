-- The loops round an instance, each at its own indexes, see no more than the instance does.
use Rattle.std.proofs.Common.{◌≡◌, ℕ, true, List, [], ◌∷◌, ◌++◌, length, refl, sym, ap, ◌∙◌, subst, arith, append_assoc, length-append}
use Rattle.wf_layers.specs.Address.{Address, Table, address, starts, SeenIn}
use Rattle.wf_layers.specs.Source.{Agrees}
use Rattle.wf_accepted_laws.specs.Order.{Contains}
use Rattle.wf_meant.specs.DefTree.{DefTree}
use Rattle.wf_record.specs.Record.{Row}
use Rattle.wf_meant.specs.Environment.{Environment}
use Rattle.wf_meant.specs.Loops.{loops_of}
use Rattle.wf_meant.proofs.PrefixLemmas.{starts_front}
use Rattle.wf_meant.proofs.RoundLemmas.{split_of}
use Rattle.wf_meant.specs.Points.{graph_of}
use Rattle.wf_instance.proofs.ItemLemmas.{DecisionsAreLocal, Kept, Opened}

-- ---- so each of them sees what the instance sees, at a front of its indexes
module _ (d : DefTree) (e : Environment) (kept : Kept d) (local : DecisionsAreLocal) (t u : Table Row) (y : Address)
    (agree : Agrees (SeenIn (graph_of d)) y t u)
    (seen_inside : (c x z : Address) → Contains (graph_of d) c.name x.name → starts c.at x.at ≡ true → SeenIn (graph_of d) c z
    → SeenIn (graph_of d) x z) where
  opened_from : (ps ls is js : List ℕ) → loops_of (graph_of d) y.name ≡ ps ++ ls → y.at ≡ is ++ js → length is ≡ length ps
      → Opened d e kept local t u ls js is
  opened_from ps [] is js of at long = tt
  opened_from ps (l ∷ ls) is [] of at long = tt
  opened_from ps (l ∷ ls) is (j ∷ js) of at long =
      let h = split_of (graph_of d) kept.once y.name ps l ls of in (
        record {
          full = long ∙ ap length (sym h.outer);
          agree = λ z seen. agree z (seen_inside (address l is) y z h.contains
              (subst (λ (k : List ℕ). starts is k ≡ true) (sym at) (starts_front is (j ∷ js))) seen);
        },
        opened_from (ps ++ l ∷ []) ls (is ++ j ∷ []) js (of ∙ sym (append_assoc ps (l ∷ []) ls)) (at ∙ sym (append_assoc is (j ∷ []) js))
            (omega (arith, long, length-append is (j ∷ []), length-append ps (l ∷ []))),
      )

  pub opened_loops : Opened d e kept local t u (loops_of (graph_of d) y.name) y.at []
  opened_loops = opened_from [] (loops_of (graph_of d) y.name) [] y.at refl refl refl
