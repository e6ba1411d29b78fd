-- Proves of each, for a well_formed problem, that logged times are least (`logged-least`), that an entry's key is its time plus its
-- potential (`keyed`), and that keys never fall (`keys-rise`). The reason is `frontier`: every walk meets a candidate in time. Assumes
-- nothing.
use Rattle.std.proofs.Common.{◌∙◌, ap, inl, inr, arith}
use Rattle.std.specs.Prelude.{◌≡◌, ◌⊎◌, ◌+◌, ◌<◌, ◌≤◌, ℕ}
use Rattle.std.proofs.Math.Path.{refl}
use Rattle.std.proofs.Math.Option.{none, some}
use mathlib.Core.List.Memᴰ
use mathlib.Core.List.{List, Memᴰ, [], ◌∷◌}
use Rattle.graph.proofs.Total.{decide_option, none-some, some-some, within}
use Rattle.graph.specs.Least.{IsLeast}
use Rattle.graph.proofs.Least.{least-number}
use Rattle.graph.specs.Network.{Arc}
use Rattle.graph.proofs.Network.{ends-below}
use Rattle.graph.proofs.Potential.{falls-by}
use Rattle.graph.specs.Search.{Entry, Problem, offered, time_in}
use Rattle.graph.specs.Walk.{Offer, TimeIs, Walk, WellFormed, begin, by_arc, by_start}
use Rattle.graph.specs.Walk.{follow}
use Rattle.graph.proofs.Walk.{offered-least, time_in-cases, time_in-here, time_in-none, time_in-there}
use Rattle.graph.specs.Choice.{Candidate, chosen}
use Rattle.graph.specs.History.{Reached, fresh, grow, Ahead, Logged, Keyed}

-- The offer by which a candidate has its time.
pub offer_of : (G : Problem) {H : List Entry} {c : Entry} → Candidate G H c → Offer G H c.vertex c.time
offer_of G {H} {c} k = (offered-least G H c.vertex).attained c.time k.time-is

pub mem-time_in : (H : List Entry) (v t : ℕ) → time_in H v ≡ some t → (e : Entry) × Memᴰ e H × (e.vertex ≡ v) × (e.time ≡ t)
unfolding time_in
mem-time_in [] v t h = absurd (none-some refl h)
mem-time_in (c ∷ H) v t h = go (mem-time_in H v t) (time_in-cases c H v t h)
  where
    go : (time_in H v ≡ some t → (e : Entry) × Memᴰ e H × (e.vertex ≡ v) × (e.time ≡ t))
        → TimeIs c H v t → (e : Entry) × Memᴰ e (c ∷ H) × (e.vertex ≡ v) × (e.time ≡ t)
    go ih (inl q) = (c, Memᴰ.head refl, q.0, q.1)
    go ih (inr q) = let r = ih q.1 in (r.0, Memᴰ.tail r.1, r.2, r.3)

module _ {G : Problem} (wf : WellFormed G) where
  walk_below : {v t : ℕ} → Walk G v t → v < G.size
  walk_below (begin {v} {t} q) = wf.starts v t q
  walk_below (follow {u} {v} {c} w a e) = (ends-below wf.inside u v c a).1

  -- An unlogged vertex with an estimate and an offer is a candidate, of at most that time.
  pub candidate_of : (H : List Entry) (v s p : ℕ) → v < G.size → time_in H v ≡ none → G.pot v ≡ some p → Offer G H v s
      → (c : Entry) × Candidate G H c × (c.vertex ≡ v) × (c.time ≤ s) × (c.key ≡ c.time + p)
  candidate_of H v s p lt un pot o =
      let r = within (offered G H v) s ((offered-least G H v).bound s o) in (
        record { vertex = v; time = r.0; key = r.0 + p },
        record { below = lt; unlogged = un; estimate = p; pot-is = pot; key-is = refl; time-is = r.1 },
        refl,
        r.2,
        refl,
      )

  -- A walk to v meets the frontier of a history whose times are least: v
  -- is logged in time, or some candidate on the way has a key of at most the walk's.
  module _ (H : List Entry) (least : (v t s : ℕ) → time_in H v ≡ some t → Walk G v s → t ≤ s) where
    land : (v s r p : ℕ) → Walk G v s → G.pot v ≡ some p → Offer G H v r → r ≤ s → Logged H v s ⊎ Ahead G H v s p
    land v s r p w pot o le = go (decide_option (time_in H v))
      where
        go : (time_in H v ≡ none) ⊎ ((t : ℕ) × (time_in H v ≡ some t)) → Logged H v s ⊎ Ahead G H v s p
        go (inl un) =
            let (c, candidate, at, time-le, key-is) = candidate_of H v r p (walk_below w) un pot o in
            inr (record { entry = c; candidate = candidate; key-le = omega arith; time-le = omega arith; place = inl at })
        go (inr t) = inl (record { at = t.0; time-is = t.1; time-le = least v t.0 s t.1 w })

    pub frontier : {v s : ℕ} → Walk G v s → (p : ℕ) → G.pot v ≡ some p → Logged H v s ⊎ Ahead G H v s p
    frontier (begin {v} {t} q) p pot = land v t t p (begin q) pot (by_start q) (omega arith)
    frontier (follow {u} {v} {s} {c = d} {t} w a q) p pot = go (frontier w c.0 c.1)
      where
        c : (p' : ℕ) × (G.pot u ≡ some p') × (p' ≤ d + p)
        c = falls-by G.pot wf.consistent p a pot

        go : Logged H u s ⊎ Ahead G H u s c.0 → Logged H v t ⊎ Ahead G H v t p
        go (inl l) =
            land v t (l.at + d) p (follow w a q) pot (by_arc l.time-is a refl) (omega arith)
        go (inr h) = inr (record {
          entry = h.entry;
          candidate = h.candidate;
          key-le = omega (arith, h.key-le, c.2);
          time-le = omega (arith, h.time-le);
          place = inr (record { from = u; cost = d; arc = a; in_time = omega (arith, h.time-le) });
        })

  walk_of : (H : List Entry) → ((v t : ℕ) → time_in H v ≡ some t → Walk G v t) → {v t : ℕ} → Offer G H v t → Walk G v t
  walk_of H ih (by_start q) = begin q
  walk_of H ih (by_arc {u} {s} h a q) = follow (ih u s h) a q

  -- A logged time is that of a walk, and no walk has a smaller one.
  pub logged_walk : {H : List Entry} → Reached G H → (v t : ℕ) → time_in H v ≡ some t → Walk G v t
  unfolding time_in
  logged_walk fresh v t h = absurd (none-some refl h)
  logged_walk (grow {c} {H} r g (chosen k pr)) v t h = go (logged_walk r) (time_in-cases c H v t h)
    where
      go : ((v t : ℕ) → time_in H v ≡ some t → Walk G v t) → TimeIs c H v t → Walk G v t
      go ih (inl e) = rw (e.0, e.1) at (walk_of H ih (offer_of G k))
      go ih (inr e) = ih v t e.1

  pub walk_no_sooner : {H : List Entry} → Reached G H → (v t s : ℕ) → time_in H v ≡ some t → Walk G v s → t ≤ s
  unfolding time_in
  walk_no_sooner fresh v t s h w = absurd (none-some refl h)
  walk_no_sooner (grow {c} {H} r g (chosen k pr)) v t s h w = go (walk_no_sooner r) (time_in-cases c H v t h)
    where
      chosen-least : Logged H c.vertex s ⊎ Ahead G H c.vertex s k.estimate → c.time ≤ s
      chosen-least (inl l) = absurd (none-some k.unlogged l.time-is)
      chosen-least (inr a) = omega (arith, (pr a.entry a.candidate).keys, a.key-le, k.key-is)

      go : ((v t s : ℕ) → time_in H v ≡ some t → Walk G v s → t ≤ s) → TimeIs c H v t → t ≤ s
      go ih (inl e) = omega (arith, chosen-least (frontier H ih (rw (← e.0) at w) k.estimate k.pot-is), e.1)
      go ih (inr e) = ih v t s e.1 w

  -- An entry of the history is what `time_in` finds: no vertex is logged twice.
  pub time_in-mem : {H : List Entry} → Reached G H → (e : Entry) → Memᴰ e H → time_in H e.vertex ≡ some e.time
  time_in-mem fresh e m = absurd (Memᴰ.not-nil m)
  time_in-mem (grow {c} {H} r g (chosen k pr)) e m = go (time_in-mem r e) (Memᴰ.cases_cons m)
    where
      go : (Memᴰ e H → time_in H e.vertex ≡ some e.time) → (e ≡ c) ⊎ Memᴰ e H → time_in (c ∷ H) e.vertex ≡ some e.time
      go ih (inl q) = rw q (time_in-here c H c.vertex refl)
      go ih (inr n) = time_in-there c H e.vertex (λ q. none-some k.unlogged (ap (time_in H) q ∙ ih n)) ∙ ih n

  -- Every logged entry has the least time of its vertex.
  pub logged-least : {H : List Entry} → Reached G H → (e : Entry) → Memᴰ e H → IsLeast (Walk G e.vertex) (some e.time)
  logged-least r e m =
      let h = time_in-mem r e m in
      least-number (logged_walk r e.vertex e.time h) (λ s w. walk_no_sooner r e.vertex e.time s h w)

  pub keyed : {H : List Entry} → Reached G H → (e : Entry) → Memᴰ e H → Keyed G e
  keyed fresh e m = absurd (Memᴰ.not-nil m)
  keyed (grow {c} {H} r g (chosen k pr)) e m = go (keyed r e) (Memᴰ.cases_cons m)
    where
      go : (Memᴰ e H → Keyed G e) → (e ≡ c) ⊎ Memᴰ e H → Keyed G e
      go ih (inl q) = rw q (record { below = k.below; estimate = k.estimate; pot-is = k.pot-is; key-is = k.key-is })
      go ih (inr n) = ih n

  -- An entry's key is at most the next one's: what was a candidate then came
  -- later, and what the entry itself offers falls by no more than the cost.
  key-next : {b c : Entry} {H : List Entry} → Reached G (c ∷ b ∷ H) → b.key ≤ c.key
  key-next (grow {c} (grow {c = b} {H} r g (chosen kb prb)) g' (chosen kc prc)) = by-offer (offer_of G kc)
    where
      old : Offer G H c.vertex c.time → b.key ≤ c.key
      old o =
          let unlogged = (time_in-none b H c.vertex kc.unlogged).1 in
          let (d, candidate, _, time-le, key-is) =
          candidate_of H c.vertex c.time kc.estimate kc.below unlogged kc.pot-is o in
          omega (arith, kc.key-is, (prb d candidate).keys, key-is, time-le)

      by-arc : (u s d : ℕ) → Arc G.net u c.vertex d → c.time ≡ s + d → TimeIs b H u s → b.key ≤ c.key
      by-arc u s d a q (inr e) = old (by_arc e.1 a q)
      by-arc u s d a q (inl e) =
          let p = falls-by G.pot wf.consistent kc.estimate a kc.pot-is in
          let same : kb.estimate ≡ p.0 = some-some kb.pot-is (ap G.pot e.0 ∙ p.1) in
          omega (arith, kb.key-is, kc.key-is, p.2, same, e.1, q)

      by-offer : Offer G (b ∷ H) c.vertex c.time → b.key ≤ c.key
      by-offer (by_start q) = old (by_start q)
      by-offer (by_arc {u} {s} {c = d} h a q) = by-arc u s d a q (time_in-cases b H u s h)

  -- Keys along the log never fall.
  pub keys-rise : (H : List Entry) (c : Entry) → Reached G (c ∷ H) → (e : Entry) → Memᴰ e H → e.key ≤ c.key
  keys-rise [] c r e m = absurd (Memᴰ.not-nil m)
  keys-rise (b ∷ H) c r e m = go (key-next r) (λ n. keys-rise H b (tail-reached r) e n) (Memᴰ.cases_cons m)
    where
      tail-reached : {c : Entry} {L : List Entry} → Reached G (c ∷ L) → Reached G L
      tail-reached (grow r g n) = r

      go : b.key ≤ c.key → (Memᴰ e H → e.key ≤ b.key) → (e ≡ b) ⊎ Memᴰ e H → e.key ≤ c.key
      go le ih (inl q) = rw q le
      go le ih (inr n) = omega (arith, ih n)
