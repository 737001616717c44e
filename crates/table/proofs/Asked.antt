-- What a checked table says of its nodes and variables.
use Rattle.std.proofs.Common.{◌≡◌, ℕ, suc, ◌-◌, ◌<◌, ◌≤◌, true, false, List, map, length, get_or, replicate, sym, ap, ◌∙◌, inl, inr, arith}
use Rattle.std.proofs.lemmas.List.{get_or_past, get_or_append_left, get_or-map, length-map, length-take}
use Rattle.std.proofs.lemmas.Bool.{cases_Bool, both_ways}
use Rattle.text.specs.Format.{is_option_role, listed}
use Rattle.text.specs.declared.record.Variable.{Variable}
use Rattle.table.specs.declared.table.Table.{Table}
use Rattle.table.specs.Circuit.{Vars, none, mention, mentions, about}
use Rattle.table.specs.Sound.{known, is_option, verdict, sound}
use Rattle.table.specs.Nodes.{shape}
use Rattle.table.specs.Sets.{mask, has_bit}
use Rattle.table.specs.Whole.{circuit, roles}
use Rattle.table.proofs.Upward.{upward_length}
use Rattle.table.proofs.Truths.{about_known}
use Rattle.table.proofs.Decided.{decides_known}
use Rattle.table.proofs.Numbers.{role_at, option_known}
use Rattle.table.proofs.Sounds.{sound_proper}
use Rattle.table.proofs.Yes.{sound_verdict}
use Rattle.table.proofs.Packs.{getD_mask, has_bit_is}

module _ (t : Table) where
  size : length (circuit t) ≡ length t.nodes.now
  size = length-map t.nodes.now (shape t.children.now)

  pub proved_sound : verdict (roles t) (circuit t) ≡ sound
  proved_sound = sound_verdict _ t.sound

  pub past_nodes : (i v : ℕ) → length t.nodes.now ≤ i → about (circuit t) i v ≡ false
  past_nodes i v h = ap (λ (m : Vars). m v) (get_or_past (mentions (circuit t)) i none (omega (arith, upward_length mention (circuit t), size)))

  pub unknown_variable : (i v : ℕ) → known (length (roles t)) v ≡ false → about (circuit t) i v ≡ false
  unknown_variable i v h =
      let p = sound_proper (roles t) (circuit t) proved_sound in
      elim (cases_Bool (about (circuit t) i v)) [
        | inl yes-it ↦ absurd (both_ways (known (length (roles t)) v) h ((decides_known (roles t) v).1 (about_known (circuit t) p.ordered (roles t) p.known_variables i v yes-it)))
        | inr e ↦ e
      ]

  pub set_is : (i : ℕ) → i < length t.nodes.now → get_or t.mentions.sets i 0 ≡ mask (length (roles t)) (about (circuit t) i)
  set_is i h =
      let ms : List ℕ = map (mask (length (roles t))) (mentions (circuit t)) in
      let long : i < length ms = omega (arith, length-map (mentions (circuit t)) (mask (length (roles t))), upward_length mention (circuit t), size) in
      ap (λ m. get_or m.sets i 0) t.mentioned ∙ get_or_append_left ms (replicate (4096 - length (circuit t)) 0) 0 i long ∙ getD_mask (length (roles t)) (mentions (circuit t)) i

  pub bit_says : (i v : ℕ) → i < length t.nodes.now → known (length (roles t)) v ≡ true → has_bit v (get_or t.mentions.sets i 0) ≡ about (circuit t) i v
  bit_says i v h k =
      let inside = (decides_known (roles t) v).0 k in
      ap (has_bit v) (set_is i h) ∙ has_bit_is (length (roles t)) v (about (circuit t) i) inside.0 inside.1

  pub unknown_option : (v : ℕ) → known (length (roles t)) v ≡ false → is_option (roles t) v ≡ false
  unknown_option v h = elim (cases_Bool (is_option (roles t) v)) [
    | inl yes-it ↦ absurd (both_ways (known (length (roles t)) v) h ((decides_known (roles t) v).1 (option_known (roles t) v yes-it)))
    | inr e ↦ e
  ]

  pub variables_long : length (roles t) ≡ length (listed t.variables)
  variables_long = length-map (listed t.variables) (λ v. is_option_role v.role)

  pub variables_few : length (roles t) ≤ 64
  variables_few = omega (arith, variables_long, length-take t.variables.count t.variables.all, t.variables.fits)

  pub option_says : (v : ℕ) (x : Variable) (vs : List Variable) → known (length (roles t)) v ≡ true → vs ≡ listed t.variables
      → is_option (roles t) v ≡ is_option_role (get_or vs (v - 1) x).role
  option_says v x vs k e =
      let inside = (decides_known (roles t) v).0 k in
      let back : suc (v - 1) ≡ v = omega arith in
      let short : v - 1 < length (listed t.variables) = omega (arith, variables_long) in
      ap (is_option (roles t)) (sym back) ∙ role_at (roles t) (v - 1)
      ∙ get_or-map (λ y. is_option_role y.role) (listed t.variables) (v - 1) x false short ∙ ap (λ l. is_option_role (get_or l (v - 1) x).role) (sym e)
