use Rattle.std.proofs.Common.{◌≡◌, ◌*◌, length, sym, ◌∙◌, subst, ap₂, arith}
use Rattle.std.proofs.lemmas.Bool.{le-leb}
use Rattle.table.proofs.Asked.{proved_sound}
use Rattle.table.proofs.Upward.{upward_length}
use Rattle.table.specs.Whole.{circuit, roles}
use Rattle.passes.specs.Bounding.{Bounded, Meets}
use Rattle.passes.specs.Passes.{pair}
use Rattle.passes.specs.Places.{pair_places}
use Rattle.passes.specs.Problem.{problem, under_holds}
use Rattle.passes.proofs.Below.{bounded, meets, plain_where_held}
use Rattle.passes.proofs.Roots.{some_node, node_count, last_part, root_part_in}
use Rattle.passes.proofs.query.Query.pair_bound.Goals as goal

pub value-requires : goal.value-requires
value-requires g c =
    let t = c.args.self.now.table.now in
    let n = length t.nodes.now in
    let same : n * c.stride.result ≡ pair_places (roles t) (circuit t) = ap₂ (λ a b. a * b) (sym (node_count t)) c.stride.ensures in
    le-leb _ _ (omega (arith, last_part n c.stride.result (some_node t), same, c.requires.room, c.pair_pass.auto.work))

pub returns : goal.returns
returns g c =
    let R = g.K.Figure.ring in
    let t = c.args.self.now.table.now in
    let p = problem c.args.self.now in
    let good = proved_sound t in
    let answer = c.value.ensures
    ∙ root_part_in R p.roles c.stride.result c.stride.ensures _ _ _ _ c.pair_pass.ensures (upward_length (pair R p) p.circuit ∙ node_count t) (some_node t) in
    record {
      bounded = subst (Bounded R p) (sym answer) (bounded R g.K.Figure.laws p good);
      meets = subst (Meets R p) (sym answer) (meets R g.K.Figure.laws p good);
      held = λ h. plain_where_held R (under_holds p h) good;
      work = c.pair_pass.ensures;
    }
