use Rattle.std.proofs.Common.{◌≡◌, ◌+◌, ◌-◌, sym, ap, ◌∙◌, arith}
use Rattle.search.specs.Walk.{back}
use Rattle.search.proofs.Retreats.{back_on, back_off}
use Rattle.search.proofs.trail.retreat.Goals as goal

pub returns-then-branch : goal.returns-then-branch
returns-then-branch c =
    let there : c.loop-at.at - 1 + 1 ≡ c.loop-at.at = omega arith in
    let e = sym (back_on c.loop-at.trail c.loop-at.at (c.loop-at.at - 1) c.loop-at.holds.entries (omega arith) c.if-branch.true) ∙ c.loop-at.invariant in
    record { depth = there ∙ ap (λ b. b.0) e; trail = ap (λ b. b.1) e; holds = c.hold.ensures ∙ ap (λ b. b.2) e }

pub loop-at-preserved : goal.loop-at-preserved
loop-at-preserved c =
    ap (back c.loop-at.trail (c.loop-at.at - 1)) c.release.ensures
    ∙ sym (back_off c.loop-at.trail c.loop-at.at (c.loop-at.at - 1) c.loop-at.holds.entries (omega arith) c.if-branch.false) ∙ c.loop-at.invariant

pub returns : goal.returns
unfolding back
returns c =
    let e = sym (ap (λ n. back c.loop-at.trail n c.loop-at.holds.entries) (let z : c.loop-at.at ≡ 0 = omega arith in z)) ∙ c.loop-at.invariant in
    record { depth = ap (λ b. b.0) e; trail = ap (λ b. b.1) e; holds = ap (λ b. b.2) e }
