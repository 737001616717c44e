use Rattle.std.proofs.Common.{◌≡◌, ◌<◌, false, ◌&&◌, leb, length, drop, Ok, Err, sym, refl, ap, ◌∙◌, subst, ⊎_elim, rules, arith}
use Rattle.std.proofs.lemmas.Bool.{and_left, and_right, lt-leb}
use Rattle.std.proofs.lemmas.Result.{err_from_is_err_and, IfOk-from_err}
use Rattle.text.specs.declared.fault.Fault.TheVariants as fault
use Rattle.text.specs.Lines.{lines}
use Rattle.text.specs.Format.{rooms_for}
use Rattle.text.specs.Steps.{sofar, first_says, Taken}
use Rattle.text.proofs.Limits.{before_ok, before_err}
use Rattle.text.proofs.Runs.{Going, begins, ends_accepted, ends_line, ends_inside, ends_outside, goes_on, rooms_same, next_place}
use Rattle.text.proofs.Printable.{file_printable}
use Rattle.text.proofs.Counts.{file_counted}
use Rattle.text.proofs.reader.read_table.Goals as goal
use Rattle.text.proofs.reader.read_table.Goals.{In_ok-map_err}

pub returns-then-file-lt1 : goal.returns-then-file-lt1
returns-then-file-lt1 c =
    let file = c.args.file.now in
    let outside : (leb 1 (length file) && leb (length file) 65536) ≡ false =
    ⊎_elim (λ h. and_left (leb 1 (length file)) (leb (length file) 65536) (lt-leb 1 (length file) h)) (λ h. and_right (leb 1 (length file)) (leb (length file) 65536) (lt-leb (length file) 65536 h.1)) c.then-file-lt1.either in
    let e = ends_outside file c.args.nodes.now c.args.children.now outside in
    record { answer = e.answer_is; nodes = e.nodes_are; children = e.children_are; counts = tt; names = tt }

pub loop-line-init : goal.loop-line-init
loop-line-init c = record { going = begins c.args.file.now c.args.nodes.now c.args.children.now c.new-progress.result c.new-progress.ensures.begins c.new-progress.ensures.nodes c.new-progress.ensures.children; nodes = refl; children = refl }

-- a line was taken
next : (c : In_ok-map_err) → Going c.args.file.now c.args.nodes.now c.args.children.now c.take_next.new.self × (c.loop-line.progress.place < c.take_next.new.self.place)
next c =
    let file = c.args.file.now in
    let ns = c.args.nodes.now in
    let cs = c.args.children.now in
    let s = c.loop-line.progress in
    let t = c.take_next.new.self in
    let g = c.loop-line.invariant.going in
    let due = sym c.loop-line-test.ensures in
    let ok = before_ok c.take_next.result c.map_err.result _ c.map_err.ensures.cases _ c.in_ok-map_err.was in
    let step = rw ok at c.take_next.ensures.moves in
    let taken = subst (λ rooms. Taken s t (first_says rooms (sofar s) (lines (drop s.place file)))) (rooms_same file ns cs s g) step in
    (goes_on file ns cs s g due t c.take_next.ensures.stores.nodes_long c.take_next.ensures.stores.children_long taken, (next_place (rooms_for ns cs) (sofar s) (sofar t) file g.within taken.says).0)

pub loop-line-smaller : goal.loop-line-smaller
loop-line-smaller c = let n = next (goal.at.loop-line-smaller c).In_ok-map_err in omega (arith, n.0.within)

pub loop-line-preserved : goal.loop-line-preserved
loop-line-preserved c =
    let stores = c.take_next.ensures.stores in
    record { going = (next (goal.at.loop-line-preserved c).In_ok-map_err).0; nodes = stores.nodes ∙ c.loop-line.invariant.nodes; children = stores.children ∙ c.loop-line.invariant.children }

pub returns-in_err-map_err : goal.returns-in_err-map_err
returns-in_err-map_err c =
    let file = c.args.file.now in
    let ns = c.args.nodes.now in
    let cs = c.args.children.now in
    let s = c.loop-line.progress in
    let g = c.loop-line.invariant.going in
    let due = sym c.loop-line-test.ensures in
    let err = before_err c.take_next.result c.map_err.result _ c.map_err.ensures.cases _ c.in_err-map_err.was in
    let why : c.in_err-map_err.field-0.0 ≡ fault.Line err.0 c.loop-line.progress.line = let l = err.2 in search rules in
    let told = rw err.1 at c.take_next.ensures.moves in
    let says = subst (λ rooms. first_says rooms (sofar s) (lines (drop s.place file)) ≡ Err err.0) (rooms_same file ns cs s g) told.0 in
    let e = ends_inside file ns cs _ _ _ c.if-file-lt1.false c.if-file-gt65536.false (ends_line file ns cs s g due err.0 says) in
    let p = err_from_is_err_and c.from_residual.result c.from_residual.ensures.1 in
    let stores = c.take_next.ensures.stores in
    let nodes_named = sym (stores.nodes ∙ c.loop-line.invariant.nodes ∙ c.new-progress.ensures.same_nodes) in
    let children_named = sym (stores.children ∙ c.loop-line.invariant.children ∙ c.new-progress.ensures.same_children) in
    let nodes_are = told.1 ∙ e.nodes_are in
    let children_are = told.2 ∙ e.children_are in
    record {
      answer = p.1 ∙ ap Err (p.2 ∙ why) ∙ e.answer_is;
      nodes = search rules;
      children = search rules;
      counts = IfOk-from_err _ _ c.from_residual.ensures.0;
      names = IfOk-from_err _ _ c.from_residual.ensures.0;
    }

pub returns : goal.returns
returns c =
    let file = c.args.file.now in
    let ns = c.args.nodes.now in
    let cs = c.args.children.now in
    let s = c.loop-line.progress in
    let g = c.loop-line.invariant.going in
    let done = sym c.loop-line-test.ensures in
    let e = ends_inside file ns cs _ _ _ c.if-file-lt1.false c.if-file-gt65536.false (ends_accepted file ns cs s g done) in
    let answer = ap (λ vs. Ok (record { variables = vs; nodes = s.header.nodes; children = s.header.children; weights = s.place })) s.variables_are ∙ e.answer_is in
    let nodes_named = sym (c.loop-line.invariant.nodes ∙ c.new-progress.ensures.same_nodes) in
    let children_named = sym (c.loop-line.invariant.children ∙ c.new-progress.ensures.same_children) in
    record {
      answer = answer;
      nodes = search rules;
      children = search rules;
      counts = file_counted _ (rooms_for ns cs) file (sym answer);
      names = file_printable (rooms_for ns cs) file _ (sym answer);
    }
