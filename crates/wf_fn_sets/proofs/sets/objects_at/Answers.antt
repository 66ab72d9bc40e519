use Rattle.std.proofs.Common.{◌∙◌, ◌<◌, subst, sym, ap, map, drop, ◌+◌, ◌++◌, ◌∷◌, [], Ok}
use Rattle.std.proofs.lemmas.List.{map-append}
use Rattle.std.proofs.lemmas.Result.{err_from_is_err_and}
use Rattle.wf_val.specs.Arguments.{given, object_of}
use Rattle.wf_fn_sets.specs.Sets.{each_from}
use Rattle.wf_fn_sets.proofs.EachLemmas.{one-read, one-refused}
use Rattle.wf_fn_sets.proofs.sets.objects_at.Goals as goal

pub returns-in_err-object_at : goal.returns-in_err-object_at
returns-in_err-object_at c =
    let p = err_from_is_err_and c.from_residual.result c.from_residual.ensures.1 in
    let refused = one-refused (object_of c.args.function) c.args.args.now c.loop-place.place
    (map (λ l. l.now) c.loop-place.objects.items) c.in_err-object_at.field-0.0
    (subst (λ n. c.loop-place.place < n) c.len-place-end.ensures.count c.loop-place-test.true) c.in_err-object_at.ensures.err in
    rw (p.1, p.2) (λ some. sym refused ∙ c.loop-place.invariant)

pub loop-place-preserved : goal.loop-place-preserved
loop-place-preserved c =
    let done = map (λ l. l.now) c.loop-place.objects.items in
    ap (λ l. given (each_from (object_of c.args.function) (c.loop-place.place + 1) (drop (c.loop-place.place + 1) c.args.args.now))
    (λ more. Ok (l ++ more)))
    (ap (map (λ l. l.now)) c.in_ok-push.ensures.items ∙ map-append (λ l. l.now) c.loop-place.objects.items (c.in_ok-object_at.field-0 ∷ []))
    ∙ one-read (object_of c.args.function) c.args.args.now c.loop-place.place done c.in_ok-object_at.field-0.now
    (subst (λ n. c.loop-place.place < n) c.len-place-end.ensures.count c.loop-place-test.true) c.in_ok-object_at.ensures.ok
    ∙ c.loop-place.invariant
