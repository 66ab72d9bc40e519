use Rattle.std.proofs.Common.{◌≡◌, ◌+◌, ◌<◌, suc, true, false, Some, None, sym, ap, subst, ◌∙◌, arith}
use Rattle.std.proofs.lemmas.Bool.{lt-ltb}
use Rattle.wf_answers.specs.AnswerSeen.{answer_tree}
use Rattle.wf_asks.specs.Instances.{address_of}
use Rattle.wf_done.specs.DoneSeen.{begun_tree}
use Rattle.wf_layers.specs.Machine as machine
use Rattle.wf_tables.specs.Tables.{leaf_tree}
use Rattle.wf_runnable.specs.Meant.{source}
use Rattle.wf_runnable.specs.Actions.{Actions}
use Rattle.wf_session.specs.Begun.{answered_in, going, moment}
use Rattle.wf_session.specs.Waiting.{key_at}
use Rattle.wf_session.proofs.MissingLemmas.{in_definition, looked_up}
use Rattle.wf_session.proofs.missing.next_missing.Goals as goal

pub returns-in-Some-answer_at-clause-none : goal.returns-in-Some-answer_at-clause-none
returns-in-Some-answer_at-clause-none c = λ none w runs.
    let acts : Actions = c.acts-actions.result.now in
    let same : acts ≡ c.args.making.now.0 = c.acts-actions.ensures ∙ ap (λ s. s.0) c.state-kept.ensures in
    let x = address_of c.args.place.now in
    let leaf = leaf_tree begun_tree c.in-Some.leaf.now in
    let listed : Some leaf ≡ (moment c.args.making.now.1).running x =
    subst (λ s. Some leaf ≡ (moment s.1).running x) c.state-kept.ensures c.in-Some.ensures in
    let both : Some leaf ≡ Some w = listed ∙ runs in
    let is : leaf ≡ w = cc in
    let next : suc leaf.tries ≡ c.in-Some.leaf.now.tries + 1 = omega arith in
    let has : answered_in (going acts) x (c.in-Some.leaf.now.tries + 1) ≡ true =
    looked_up acts c.in_ok-address-in-Some.address x c.in_ok-address-in-Some.ensures (c.in-Some.leaf.now.tries + 1)
    (Some (answer_tree c.in-Some-answer_at.field-0.now)) c.in-Some-answer_at.ensures in
    subst (λ a. answered_in (going a) x (suc w.tries) ≡ true) same
    (subst (λ (v : machine.Running _). answered_in (going acts) x (suc v.tries) ≡ true) is
    (subst (λ n. answered_in (going acts) x n ≡ true) (sym next) has))

pub returns-in-None-answer_at-clause-missing : goal.returns-in-None-answer_at-clause-missing
returns-in-None-answer_at-clause-missing c =
    let acts : Actions = c.acts-actions.result.now in
    let same : acts ≡ c.args.making.now.0 = c.acts-actions.ensures ∙ ap (λ s. s.0) c.state-kept.ensures in
    let x = address_of c.args.place.now in
    let leaf = leaf_tree begun_tree c.in-Some.leaf.now in
    let listed : Some leaf ≡ (moment c.args.making.now.1).running x =
    subst (λ s. Some leaf ≡ (moment s.1).running x) c.state-kept.ensures c.in-Some.ensures in
    let w = c.requires.1.0 in
    let both : Some w ≡ Some leaf = sym c.requires.1.1 ∙ sym listed in
    let is : w ≡ leaf = cc in
    let next : c.in-Some.leaf.now.tries + 1 ≡ suc leaf.tries = omega arith in
    let few : leaf.tries < (source c.args.making.now.0).tries x leaf.begun =
    subst (λ (v : machine.Running _). v.tries < (source c.args.making.now.0).tries x v.begun) is c.requires.1.2 in
    record {
      key_is =
          ap (λ z. (z, c.in-Some.leaf.now.tries + 1))
          (in_definition acts c.in_ok-address-in-Some.address x c.in_ok-address-in-Some.ensures)
          ∙ ap (λ a. key_at (going a) x (c.in-Some.leaf.now.tries + 1)) same;
      waits = record {
        leaf = leaf;
        runs = sym listed;
        next = next;
        makes = lt-ltb leaf.tries ((source c.args.making.now.0).tries x leaf.begun) few;
        open_still =
            subst (λ a. answered_in (going a) x (c.in-Some.leaf.now.tries + 1) ≡ false) same
            (looked_up acts c.in_ok-address-in-Some.address x c.in_ok-address-in-Some.ensures (c.in-Some.leaf.now.tries + 1) None
            c.in-None-answer_at.ensures);
      };
    }
