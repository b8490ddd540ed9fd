use Rattle.std.specs.Prelude.{◌≡◌, ℤ, pos, List, [], ◌∷◌, ◌++◌, length, FitsSigned}
use Rattle.std.specs.Int.{w128}
use Rattle.std.proofs.Common.{arith, rules, sym, ap, subst, get_or}
use Rattle.std.proofs.lemmas.Int.{to_z-of_z}
use Rattle.std.proofs.lemmas.List.{length-append}
use Rattle.lin_rows.specs.Linear.{coefficient_of}
use Rattle.small_caps.specs.inside.Entries.{IsMaskedAt, IsMasked}
use Rattle.small_caps.proofs.Masks.{masked_more, masked_all, masked_ok}
use Rattle.small_caps.proofs.entries.masked.Goals as goal

pub loop-v-preserved : goal.loop-v-preserved
loop-v-preserved c =
    let fits : FitsSigned w128 c.masked_at.result = search rules in
    let list = c.loop-v.list.items in
    let items : c.push.new.self.items ≡ list ++ c.masked_at.result ∷ [] = simp to_z-of_z at c.in_ok-push.ensures.items in
    let here : IsMaskedAt c.args.entry.now c.loop-v.v (coefficient_of c.args.l.now c.loop-v.v) c.masked_at.result = record { inside = c.masked_at.ensures.inside; outside = c.masked_at.ensures.outside } in
    record {
      long = omega (arith, ap (λ (xs : List ℤ). length xs) items, length-append list (c.masked_at.result ∷ []), c.loop-v.invariant.long);
      each = λ i lt. subst (λ (xs : List ℤ). IsMaskedAt c.args.entry.now i (coefficient_of c.args.l.now i) (get_or xs i (pos 0))) (sym items) (masked_more c.args.entry.now c.args.l.now list c.loop-v.v c.masked_at.result c.loop-v.invariant.long c.loop-v.invariant.each here i lt);
    }

pub returns : goal.returns
returns c =
    let list = c.loop-v.list.items in
    masked_ok c.new.result (record { coefficients = c.deref.result.now; constant = pos 0 }) (IsMasked c.args.entry.now c.args.l.now)
    (masked_all c.args.entry.now c.args.l.now (record { coefficients = c.deref.result.now; constant = pos 0 }) list c.loop-v.v c.loop-v.invariant.long (omega (arith, c.loop-v-test.false, c.len-v-end.ensures)) c.deref.ensures.value c.loop-v.invariant.each)
    c.new.ensures
