use Rattle.std.proofs.Common.{◌∙◌}
use Rattle.table.proofs.Asked.{proved_sound}
use Rattle.table.proofs.Upward.{upward_length}
use Rattle.passes.specs.Passes.{count}
use Rattle.passes.specs.Problem.{problem}
use Rattle.passes.specs.Holding.{selected}
use Rattle.passes.proofs.Figures.{counts_figure}
use Rattle.passes.proofs.Roots.{some_node, node_count, root_in}
use Rattle.passes.proofs.query.Query.count_figure.Goals as goal

pub returns : goal.returns
returns g c =
    let R = g.K.Figure.ring in
    let t = c.args.self.now.table.now in
    let p = problem c.args.self.now in
    let counts = counts_figure R g.K.Figure.laws p (proved_sound t) in
    record {
      answer = c.last_of.ensures
          ∙ root_in _ _ _ _ _ c.count_pass.ensures (upward_length (count R p (selected p.holds)) p.circuit ∙ node_count t) (some_node t)
          ∙ counts (selected p.holds);
      counts = counts;
      work = c.count_pass.ensures;
    }
