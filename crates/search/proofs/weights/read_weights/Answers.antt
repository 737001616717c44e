use Rattle.std.proofs.Common.{◌≡◌, ℕ, length, Some, None, Err, Result, sym, refl, ap, ◌∙◌, arith}
use Rattle.std.specs.Option.{ok_or}
use Rattle.std.specs.Result.{result_ok}
use Rattle.std.proofs.lemmas.List.{length-map, take_rest}
use Rattle.std.proofs.lemmas.Result.{err_from_is_err_and}
use Rattle.std.proofs.lemmas.Bool.{ltb-true, ltb-false, eqb-true, eqb-false}
use Rattle.text.specs.declared.fault.Fault.{Fault}
use Rattle.text.specs.declared.fault.Fault.TheVariants as text_fault
use Rattle.text.specs.declared.fault.Reason.TheVariants as reason
use Rattle.text.specs.declared.record.Variables.{Variables}
use Rattle.text.specs.Format.{is_option_role, listed}
use Rattle.text.specs.Lines.{lines, BeginsWithLine}
use Rattle.table.specs.declared.fault.Fault.TheVariants as table_fault
use Rattle.table.specs.Nodes.{roles_of}
use Rattle.table.specs.Whole.{roles}
use Rattle.search.specs.declared.fault.Fault.TheVariants.{Table}
use Rattle.search.specs.Study.{short_sheet}
use Rattle.search.specs.Weights.{WeightReading, is_closed, weight_lines_say, weights_say}
use Rattle.search.proofs.LastLines.{weighs_accepted}
use Rattle.search.proofs.Testing.{refuses, passes}
use Rattle.search.proofs.Weighings.{ends, ends_missing, ends_refused, goes_on, says_short, says_whole}
use Rattle.search.proofs.weights.read_weights.Given as given
use Rattle.search.proofs.weights.read_weights.Goals as goal
use Rattle.search.proofs.weights.read_weights.Goals.{After-write_ones, In_ok-content}

-- how many variables there are
many : (vs : Variables) (n : ℕ) → n ≡ length (listed vs) → n ≡ length (roles_of vs)
many vs n e = e ∙ sym (length-map (listed vs) (λ v. is_option_role v.role))

pub returns-in_err-require_sheet : goal.returns-in_err-require_sheet
returns-in_err-require_sheet g c =
    let rs = roles c.args.table.now in
    let sheet = c.args.sheet.now.figures.now in
    let short = refuses (short_sheet rs (length sheet)) c.require_sheet.result _ c.require_sheet.ensures c.in_err-require_sheet.was in
    let p = err_from_is_err_and c.from_residual.result c.from_residual.ensures.1 in
    let e = says_short g.K.Written.notation rs g.K.Figure.ring sheet c.args.text.now (ltb-true _ _ short.0) in
    record { same = refl; answer = p.1 ∙ ap Err (p.2 ∙ sym short.1) ∙ sym (ap (λ x. x.answer) e); sheet = sym (ap (λ x. x.sheet) e); weighs = weighs_accepted g.K.Figure.ring g.K.Written.notation (roles c.args.table.now) c.args.sheet.now.figures.now c.args.text.now }

-- the sheet is long enough, and begins with ones; what is left to read says what the text says
whole : (g : given.Over) (c : After-write_ones g) (told : WeightReading g.row.K.Denot) → weight_lines_say g.K.Written.notation (roles c.args.table.now) c.write_ones.new.figures 1 (lines c.args.text.now) (is_closed c.args.text.now) ≡ told
    → weights_say g.K.Figure.ring g.K.Written.notation (roles c.args.table.now) c.args.sheet.now.figures.now c.args.text.now ≡ told
whole g c told e =
    let rs = roles c.args.table.now in
    let sheet = c.args.sheet.now.figures.now in
    let n = many c.args.table.now.variables _ (ap length c.as_slice.ensures) in
    let long = ltb-false _ _ (passes (short_sheet rs (length sheet)) c.require_sheet.result c.require_sheet.ensures c.in_ok-require_sheet.was) in
    says_whole g.K.Written.notation rs g.K.Figure.ring sheet c.args.text.now _ c.write_ones.new.figures n (omega (arith, n, long)) c.write_ones.ensures told e

-- what is left begins with the line
begins : (g : given.Over) (c : In_ok-content g) → BeginsWithLine c.loop-rest.rest.now c.in_ok-content.content.now
begins g c =
    let found : c.first_line.result ≡ Some c.in_ok-content.content = c.ok_or.ensures.ok_part ∙ ap result_ok c.in_ok-content.was in
    rw found at c.first_line.ensures

same_refusal : {A : Type 0} (f h : Fault) → ◌≡◌ {A = Result A Fault} (Err f) (Err h) → f ≡ h
same_refusal f h e = cc

pub returns-in_err-content : goal.returns-in_err-content
returns-in_err-content g c =
    let at = (goal.at.returns-in_err-content g c).After-write_ones in
    let p = err_from_is_err_and c.from_residual-in_err-content.result c.from_residual-in_err-content.ensures.1 in
    let missing : c.first_line.result ≡ None = c.ok_or.ensures.ok_part ∙ ap result_ok c.in_err-content.was in
    let none = rw missing at c.first_line.ensures in
    let why = same_refusal _ _ (sym c.in_err-content.was ∙ c.ok_or.ensures.value ∙ ap (λ o. ok_or o (text_fault.Line reason.Line c.loop-rest.line)) missing) in
    let e = whole g at _ (ends_missing g.K.Written.notation (roles c.args.table.now) c.args.text.now c.write_ones.new.figures c.loop-rest.sheet.figures.now c.loop-rest.line c.loop-rest.rest.now c.loop-rest.invariant.0
    (omega (arith, eqb-false (length c.loop-rest.rest.now) 0 (sym c.loop-rest-test.ensures))) none) in
    record { same = c.loop-rest.invariant.1; answer = p.1 ∙ ap Err (p.2 ∙ ap (λ f. Table (table_fault.Text f)) why) ∙ sym (ap (λ x. x.answer) e); sheet = sym (ap (λ x. x.sheet) e); weighs = weighs_accepted g.K.Figure.ring g.K.Written.notation (roles c.args.table.now) c.args.sheet.now.figures.now c.args.text.now }

pub returns-in_err-weighing : goal.returns-in_err-weighing
returns-in_err-weighing g c =
    let at = (goal.at.returns-in_err-weighing g c).After-write_ones in
    let p = err_from_is_err_and c.from_residual-in_err-weighing.result c.from_residual-in_err-weighing.ensures.1 in
    let e = whole g at _ (ends_refused g.K.Written.notation (roles c.args.table.now) c.args.text.now c.write_ones.new.figures c.loop-rest.sheet.figures.now c.loop-rest.line c.loop-rest.rest.now c.loop-rest.invariant.0
    _ (begins g (goal.at.returns-in_err-weighing g c).In_ok-content) _ (sym c.in_err-weighing.ensures)) in
    record { same = c.loop-rest.invariant.1; answer = p.1 ∙ ap Err p.2 ∙ sym (ap (λ x. x.answer) e); sheet = sym (ap (λ x. x.sheet) e); weighs = weighs_accepted g.K.Figure.ring g.K.Written.notation (roles c.args.table.now) c.args.sheet.now.figures.now c.args.text.now }

pub loop-rest-preserved : goal.loop-rest-preserved
loop-rest-preserved g c = (
  goes_on g.K.Written.notation (roles c.args.table.now) c.args.text.now c.write_ones.new.figures c.loop-rest.sheet.figures.now c.loop-rest.line c.loop-rest.rest.now c.loop-rest.invariant.0
      _ (begins g (goal.at.loop-rest-preserved g c).In_ok-content) c.in_ok-weighing.weighing _ _ (sym c.in_ok-weighing.ensures) c.weigh.ensures.after (take_rest c.loop-rest.rest.now _),
  c.weigh.ensures.same ∙ c.loop-rest.invariant.1,
)

pub returns : goal.returns
returns g c =
    let at = (goal.at.returns g c).After-write_ones in
    let e = whole g at _ (ends g.K.Written.notation (roles c.args.table.now) c.args.text.now c.write_ones.new.figures c.loop-rest.sheet.figures.now c.loop-rest.line c.loop-rest.rest.now c.loop-rest.invariant.0 (eqb-true _ _ (sym c.loop-rest-test.ensures))) in
    record { same = c.loop-rest.invariant.1; answer = sym (ap (λ x. x.answer) e); sheet = sym (ap (λ x. x.sheet) e); weighs = weighs_accepted g.K.Figure.ring g.K.Written.notation (roles c.args.table.now) c.args.sheet.now.figures.now c.args.text.now }
