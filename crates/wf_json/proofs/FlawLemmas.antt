-- The least pointer of a flaw, member by member.
use Rattle.std.proofs.Common.{◌≡◌, ℕ, List, ◌++◌, map, Option}
use Rattle.std.proofs.Common.{option_map, sym, ap, ◌∙◌}
use Rattle.serde_json.specs.Data as json
use Rattle.wf_json.specs.Pointer.{member_step, lesser, least}
use Rattle.wf_json.specs.Read.{flawed_places, flawed_members}
use Rattle.wf_json.specs.declared.fault.Flaw.{Flaw}
use Rattle.wf_json.proofs.PointerLemmas.{lesser-assoc, least-append, least-front}

-- the pointers of one part, and those of the rest
part_then : (best : Option (List ℕ)) (step : List ℕ) (ps qs : List (List ℕ))
    → lesser best (least (map (λ p. step ++ p) ps ++ qs)) ≡ lesser (lesser best (option_map (λ p. step ++ p) (least ps))) (least qs)
part_then best step ps qs =
    ap (lesser best) (least-append (map (λ p. step ++ p) ps) qs ∙ ap (λ o. lesser o (least qs)) (least-front step ps))
    ∙ lesser-assoc best (option_map (λ p. step ++ p) (least ps)) (least qs)

member_then : (best : Option (List ℕ)) (flaw : Flaw) (room : ℕ) (k : List ℕ) (d : json.Data) (ms : json.Members)
    → lesser best (least (flawed_members flaw room (json.member k d ms)))
    ≡ lesser (lesser best (option_map (λ p. member_step k ++ p) (least (flawed_places flaw room d)))) (least (flawed_members flaw room ms))
member_then best flaw room k d ms = part_then best (member_step k) (flawed_places flaw room d) (flawed_members flaw room ms)

-- one member more: the best so far has become best'
pub member_done : (best best' rest : Option (List ℕ)) (flaw : Flaw) (room : ℕ) (k : List ℕ) (d : json.Data) (ms : json.Members)
    → rest ≡ least (flawed_places flaw room d)
    → best' ≡ lesser best (option_map (λ p. member_step k ++ p) rest)
    → lesser best' (least (flawed_members flaw room ms)) ≡ lesser best (least (flawed_members flaw room (json.member k d ms)))
member_done best best' rest flaw room k d ms found now =
    rw (now, found) (sym (member_then best flaw room k d ms))
