use Rattle.std.proofs.Common.{◌≡◌, ℕ, ◌-◌, ◌<◌, ◌≤◌, ◌++◌, ◌⊎◌, List, length, get_or, map, replicate, sym, ap, ◌∙◌, inl, inr, ⊎_elim, not-suc-le-zero, arith}
use Rattle.std.proofs.Math.ListN.{get_or-map as get_or-mapped}
use Rattle.std.proofs.lemmas.Grind.{same_number_lists}
use Rattle.std.proofs.lemmas.Bool.{cases_lt}
use Rattle.std.proofs.lemmas.List.{get_or_past, get_or-replicate, get_or_append_left, get_or-append_right, length-append, length-map, length-replicate}
use Rattle.table.specs.declared.sets.NodeSets.{NodeSets}
use Rattle.table.specs.NodeSets.{nothing}
use Rattle.table.proofs.check.mentions_of.Invariants.{Filled}
use Rattle.table.proofs.check.mentions_of.Goals as goal

zero_at : (n c : ℕ) → ◌≡◌ {A = ℕ} (get_or (replicate n 0) c 0) 0
zero_at n c = ⊎_elim (get_or-replicate n c 0 0) (λ r. get_or_past (replicate n 0) c 0 (simp length-replicate r)) (cases_lt c n)

module _ (known : List NodeSets) (i : ℕ) (sets : List ℕ) (filled : Filled known i sets) (few : length known ≤ 4096) (low : i ≤ length known) (high : length known ≤ i) where
  abbrev front : List ℕ
  front = map (λ s. s.mentions) known

  abbrev behind : List ℕ
  behind = replicate (4096 - length known) 0

  size : length front ≡ length known
  size = length-map known (λ s. s.mentions)

  whole : sets ≡ front ++ behind
  whole = same_number_lists sets (front ++ behind) long (λ c l. by_place c (cases_lt c (length known)))
    where
      long : length sets ≡ length (front ++ behind)
      long = let a = filled.long in let b = size in let d = length-replicate {A = ℕ} (4096 - length known) 0 in let e = length-append front behind in omega arith

      by_place : (c : ℕ) → (c < length known) ⊎ (length known ≤ c) → get_or sets c 0 ≡ get_or (front ++ behind) c 0
      by_place c (inl l) =
          filled.at c (omega arith) ∙ sym (get_or_append_left front behind 0 c (let e = size in omega arith) ∙ get_or-mapped (λ s. s.mentions) known c nothing)
      by_place c (inr r) =
          filled.behind c (omega arith) ∙ sym (get_or-append_right front behind (length known) c 0 size r ∙ zero_at (4096 - length known) (c - length known))

pub loop-i-init : goal.loop-i-init
loop-i-init c = record {
  long = length-replicate {A = ℕ} 4096 0;
  at = λ c m. absurd (not-suc-le-zero m);
  behind = λ c m. zero_at 4096 c;
}

pub returns : goal.returns
returns c = ap (λ xs. record { sets = xs }) (whole c.args.known.now c.loop-i.i c.loop-i.sets c.loop-i.invariant c.requires c.loop-i.auto.i-end c.loop-i-test.false)
