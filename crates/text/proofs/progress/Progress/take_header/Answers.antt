use Rattle.std.proofs.Common.{drop, sym, ap, ◌∙◌, arith}
use Rattle.text.specs.Lines.{fields}
use Rattle.text.specs.Steps.{rooms_of}
use Rattle.text.proofs.Limits.{header_limits}
use Rattle.text.proofs.progress.Progress.take_header.Goals as goal

pub invariant_of-self : goal.invariant_of-self
invariant_of-self c =
    let s = c.args.self.now in
    let limits = header_limits (rooms_of s) (drop 1 (fields c.args.line.now)) c.in_ok-header.header (sym c.header_line.ensures ∙ c.in_ok-header.was) in
    let empty = s.start c.requires.first in
    record {
      first_line = omega arith;
      start = λ e. absurd (omega (arith, s.first_line));
      variables_are = s.variables_are;
      limit_variables = limits.variables;
      limit_children = limits.children;
      room_nodes = limits.room_nodes;
      room_children = limits.room_children;
      nodes_within = omega (arith, s.nodes_within, ap (λ h. h.nodes) empty);
      children_within = omega (arith, s.children_within, ap (λ h. h.children) empty);
      lines = omega (arith, s.lines);
      places = c.requires.room;
    }
