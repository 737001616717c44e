-- What the check's yes gives.
use Rattle.std.proofs.Common.{◌≡◌, ℕ, Bool, true, false, cond, ◌&&◌, leb, List, length, is_ok, Ok, Err, Decides, Result, sym, refl, ap, ◌∙◌, arith}
use Rattle.text.specs.declared.record.Node.{Node}
use Rattle.text.specs.declared.record.Variables.{Variables}
use Rattle.table.specs.declared.fault.Fault.{Fault}
use Rattle.table.specs.declared.sets.Mentions.{Mentions}
use Rattle.table.specs.Circuit.{Shape}
use Rattle.table.specs.Sound.{Roles, Verdict, sound, flawed, is_sound, verdict}
use Rattle.table.specs.Nodes.{shapes, roles_of}
use Rattle.table.specs.Sets.{mentions_of}
use Rattle.std.proofs.lemmas.Bool.{and_parts, and_from, leb-true, le-leb, cond-true}
use Rattle.text.specs.Format.{option_count, listed}
use Rattle.table.specs.Facts.{Within, Accepts, Means}
use Rattle.table.proofs.Sounds.{sound_proper, proper_sound, deterministic, local_truth}
use Rattle.table.specs.Check.{counts_within, options_within, answer_by, check_says}

never : {X : Type 0} (f : Fault) (m : Mentions) → ◌≡◌ {A = Result Mentions Fault} (Err f) (Ok m) → X
never f m e = let z : ◌≡◌ {A = ℕ} 0 1 = cc in absurd (omega arith)

same_ok : (m n : Mentions) → ◌≡◌ {A = Result Mentions Fault} (Ok m) (Ok n) → m ≡ n
same_ok m n e = cc

-- one test that leads to an answer
passed : (b : Bool) (said : Result Mentions Fault) (f : Fault) (m : Mentions) → cond b said (Err f) ≡ Ok m → (b ≡ true) × (said ≡ Ok m)
passed true said f m e = (refl, e)
passed false said f m e = never f m e

by_verdict : (rs : Roles) (ss : List Shape) (v : Verdict) (m : Mentions) → answer_by rs ss v ≡ Ok m → (is_sound v ≡ true) × (m ≡ mentions_of (length rs) ss)
by_verdict rs ss sound m e = (refl, sym (same_ok _ m e))
by_verdict rs ss (flawed f i) m e = never _ m e

pub accepted : (vs : Variables) (ns : List Node) (cs : List ℕ) (m : Mentions) → check_says vs ns cs ≡ Ok m →
    (counts_within vs ns ≡ true) × (options_within vs ≡ true) × (is_sound (verdict (roles_of vs) (shapes cs ns)) ≡ true) × (m ≡ mentions_of (length (roles_of vs)) (shapes cs ns))
unfolding check_says
accepted vs ns cs m e =
    let a = passed (counts_within vs ns) _ _ m e in
    let b = passed (options_within vs) _ _ m a.1 in
    let c = by_verdict (roles_of vs) (shapes cs ns) (verdict (roles_of vs) (shapes cs ns)) m b.1 in
    (a.0, b.0, c.0, c.1)

pub sound_verdict : (v : Verdict) → is_sound v ≡ true → v ≡ sound
sound_verdict sound e = refl
sound_verdict (flawed f i) e = let z : ◌≡◌ {A = ℕ} 0 1 = cc in absurd (omega arith)

-- the limits, as tests and as facts
within : (vs : Variables) (ns : List Node) → counts_within vs ns ≡ true → options_within vs ≡ true → Within vs ns
within vs ns c o =
    let a = and_parts (leb 1 vs.count) (leb 1 (length ns) && leb (length ns) 4096) c in
    let b = and_parts (leb 1 (length ns)) (leb (length ns) 4096) a.1 in
    record { some_variable = leb-true 1 vs.count a.0; few_options = leb-true (option_count (listed vs)) 20 o; some_node = leb-true 1 (length ns) b.0; few_nodes = leb-true (length ns) 4096 b.1 }

counts : (vs : Variables) (ns : List Node) → Within vs ns → counts_within vs ns ≡ true
counts vs ns w = and_from (leb 1 vs.count) _ (le-leb 1 vs.count w.some_variable) (and_from (leb 1 (length ns)) _ (le-leb 1 (length ns) w.some_node) (le-leb (length ns) 4096 w.few_nodes))

module _ (vs : Variables) (ns : List Node) (cs : List ℕ) where
  ok_some : (r : Result Mentions Fault) → is_ok r ≡ true → (m : Mentions) × (r ≡ Ok m)
  ok_some (Ok m) e = (m, refl)
  ok_some (Err f) e = let z : ◌≡◌ {A = ℕ} 0 1 = cc in absurd (omega arith)

  pub yes_sound : is_ok (check_says vs ns cs) ≡ true → verdict (roles_of vs) (shapes cs ns) ≡ sound
  yes_sound e = let m = ok_some (check_says vs ns cs) e in sound_verdict _ (accepted vs ns cs m.0 m.1).2

  to_yes : Within vs ns → verdict (roles_of vs) (shapes cs ns) ≡ sound → is_ok (check_says vs ns cs) ≡ true
  unfolding check_says
  to_yes w e =
      ap is_ok (cond-true (counts_within vs ns) _ _ (counts vs ns w) ∙ cond-true (options_within vs) _ _ (le-leb (option_count (listed vs)) 20 w.few_options) ∙ ap (answer_by (roles_of vs) (shapes cs ns)) e)

  -- the check says yes exactly if the limits hold and the circuit is what it should be
  pub yes_accepts : Decides (is_ok (check_says vs ns cs)) (Accepts vs ns cs)
  yes_accepts = (
    (λ e. let m = ok_some (check_says vs ns cs) e in let a = accepted vs ns cs m.0 m.1 in (within vs ns a.0 a.1, sound_proper (roles_of vs) (shapes cs ns) (yes_sound e))),
    (λ h. to_yes h.0 (proper_sound (roles_of vs) (shapes cs ns) h.1)),
  )

  pub yes_means : is_ok (check_says vs ns cs) ≡ true → Means vs ns cs
  yes_means e = (deterministic (roles_of vs) (shapes cs ns) (yes_sound e), local_truth (roles_of vs) (shapes cs ns) (yes_sound e))
