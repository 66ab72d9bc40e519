use Rattle.std.proofs.Common.{◌≡◌, ◌≢◌, ◌++◌, ◌∷◌, ℕ, [], List, Option, None, Some, refl, arith}
use Rattle.std.specs.Io.KnownBytes.{Consumes}
use Rattle.wf_talk.specs.Hearing.{left_by, opening, told, too_large}
use Rattle.wf_talk.specs.Says.{Says, at_first}
use Rattle.wf_talk.specs.Standing.{TooLarge}
use Rattle.wf_talk.specs.Talks.{out_of_memory, over, spent_at_once}
use Rattle.wf_talk.specs.declared.stand.StandFault.{StandFault}
use Rattle.wf_talk.proofs.refusing.refuse.Goals as goal

nothing : (left : Option (List ℕ)) → Consumes left left []
nothing None = tt
nothing (Some xs) = refl

apart : (front back : List ℕ) (b : ℕ) → [] ≡ front ++ b ∷ back → ⊥
apart [] back b is = absurd (cc)
apart (x ∷ front) back b is = absurd (cc)

-- what the first standing says alone
pub returns-in-TooLarge-clause-talks : goal.returns-in-TooLarge-clause-talks
returns-in-TooLarge-clause-talks g c = λ o inputs left stands.
    let says : Says (g.S.Stand.stands o) inputs [] (told (opening inputs) TooLarge) (left_by (opening inputs) TooLarge) =
    at_first (TooLarge, stands (λ same. absurd (cc (same))), refl, refl) in record {
      given = [];
      status = 8;
      said = too_large;
      gave = nothing left;
      within = omega arith;
      closes = over refl says;
      writes = c.close.ensures.writes;
      before = λ front back b is. absurd (apart front back b is);
    }

pub returns-in-Memory-clause-talks : goal.returns-in-Memory-clause-talks
returns-in-Memory-clause-talks g c = λ o inputs left stands. record {
  given = [];
  status = 5;
  said = out_of_memory;
  gave = nothing left;
  within = omega arith;
  closes = spent_at_once refl;
  writes = c.close-in-Memory.ensures.writes;
  before = λ front back b is. absurd (apart front back b is);
}
