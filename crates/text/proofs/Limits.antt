-- What an accepted header line says of its counts.
use Rattle.std.proofs.Common.{◌≡◌, ℕ, ◌≤◌, Bool, true, false, ◌&&◌, leb, List, [], ◌∷◌, Ok, Err, Result, sym, refl, ap, subst, arith}
use Rattle.std.specs.Result.{MatchResult, IsErrAnd}
use Rattle.std.proofs.lemmas.Bool.{and_parts, leb-true}
use Rattle.text.specs.declared.fault.Reason.{Reason}
use Rattle.text.specs.declared.fault.Reason.TheVariants as reason
use Rattle.text.specs.declared.record.Header.{Header}
use Rattle.text.specs.Format.{Said, Rooms, and_then, provided, number_field, within_limits, header_of, header_says}

pub never : {A : Type 0} {X : Type 0} (r : Reason) (x : A) → ◌≡◌ {A = Said A} (Err r) (Ok x) → X
never r x e = let z : ◌≡◌ {A = ℕ} 0 1 = cc in absurd (omega arith)

pub same_ok : {A : Type 0} (x y : A) → ◌≡◌ {A = Said A} (Ok x) (Ok y) → x ≡ y
same_ok x y e = cc

pub same_err : {A : Type 0} (r q : Reason) → ◌≡◌ {A = Said A} (Err r) (Err q) → r ≡ q
same_err r q e = cc

pub provided_ok : {A : Type 0} (b : Bool) (r : Reason) (s : Said A) (x : A) → provided b r s ≡ Ok x → (b ≡ true) × (s ≡ Ok x)
provided_ok true r s x e = (refl, e)
provided_ok false r s x e = never r x e

pub then_ok : {A B : Type 0} (s : Said A) (f : A → Said B) (y : B) → and_then s f ≡ Ok y → (x : A) × (s ≡ Ok x) × (f x ≡ Ok y)
then_ok (Ok x) f y e = (x, refl, e)
then_ok (Err r) f y e = never r y e

pub record Limits (rooms : Rooms) (h : Header) : Type 0 where
  pub variables : h.variables ≤ 64
  pub some_node : 1 ≤ h.nodes
  pub children : h.children ≤ 12288
  pub room_nodes : h.nodes ≤ rooms.nodes
  pub room_children : h.children ≤ rooms.children

limits_of : (rooms : Rooms) (v n k : ℕ) → within_limits v n k ≡ true → (leb n rooms.nodes && leb k rooms.children) ≡ true → Limits rooms (header_of v n k)
limits_of rooms v n k w r =
    let a = and_parts (leb 1 v && leb v 64 && (leb 1 n && leb n 4096)) (leb k 12288) w in
    let b = and_parts (leb 1 v && leb v 64) (leb 1 n && leb n 4096) a.0 in
    let c = and_parts (leb 1 v) (leb v 64) b.0 in
    let m = and_parts (leb 1 n) (leb n 4096) b.1 in
    let d = and_parts (leb n rooms.nodes) (leb k rooms.children) r in
    record { variables = leb-true v 64 c.1; some_node = leb-true 1 n m.0; children = leb-true k 12288 a.1; room_nodes = leb-true n _ d.0; room_children = leb-true k _ d.1 }

pub header_limits : (rooms : Rooms) (fs : List (List ℕ)) (h : Header) → header_says rooms fs ≡ Ok h → Limits rooms h
unfolding header_says
header_limits rooms (a ∷ b ∷ c ∷ []) h e =
    let p = then_ok (number_field a) _ h e in
    let q = then_ok (number_field b) _ h p.2 in
    let s = then_ok (number_field c) _ h q.2 in
    let t = provided_ok (within_limits p.0 q.0 s.0) reason.Limit _ h s.2 in
    let u = provided_ok (leb q.0 rooms.nodes && leb s.0 rooms.children) reason.Store _ h t.1 in
    subst (Limits rooms) (same_ok _ _ u.1) (limits_of rooms p.0 q.0 s.0 t.0 u.0)
header_limits rooms fs h e = never reason.Line h e

-- what `map_err` was given, by what it gave
module _ {T E F : Type 0} (r : Result T E) (q : Result T F) (P : E → F → Type 0) (by : MatchResult r (λ x. q ≡ Ok x) (λ e. IsErrAnd q (P e))) where
  pub before_ok : (u : T) → q ≡ Ok u → r ≡ Ok u
  before_ok u is = go r (rw is at by)
    where
      go : (r : Result T E) → MatchResult r (λ x. ◌≡◌ {A = Result T F} (Ok u) (Ok x)) (λ e. IsErrAnd (Ok u) (P e)) → r ≡ Ok u
      go (Ok x) h = let same : u ≡ x = cc in ap Ok (sym same)
      go (Err e) h = absurd h

  pub before_err : (f : F) → q ≡ Err f → (e : E) × (r ≡ Err e) × P e f
  before_err f is = go r (rw is at by)
    where
      go : (r : Result T E) → MatchResult r (λ x. ◌≡◌ {A = Result T F} (Err f) (Ok x)) (λ e. IsErrAnd {T = T} (Err f) (P e)) → (e : E) × (r ≡ Err e) × P e f
      go (Ok x) h = let z : ◌≡◌ {A = ℕ} 0 1 = cc in absurd (omega arith)
      go (Err e) h = (e, refl, h)
