-- A row of times, entry by entry, and the marks of its blocks. Assumes nothing.
use Rattle.std.proofs.Common.{◌∙◌, ap, sym, length-set, get_or-set_other, get_or-set_same, arith}
use Rattle.std.specs.Prelude.{◌≡◌, List, ◌*◌, ◌/◌, ◌<◌, ◌≤◌, ℕ, get_or, length, set}
use Rattle.std.proofs.Math.Option.{none}
use Rattle.std.proofs.Math.Decide.{ℕ_discrete}
use Rattle.graph.specs.Total.{Total}
use Rattle.model.specs.Word.{word}
use Rattle.network.specs.Width.{fit}
use Rattle.pairs_rows.specs.Rows.{Marked, Row, block}

-- one entry written
pub row-set : {r n : ℕ} {row : List ℕ} {x : ℕ → Total} (y : ℕ → Total) (b v : ℕ) → Row r n row x
    → (r < b → b < n → v ≡ word (fit (y b))) → ((h : ℕ) → r < h → (h ≡ b → ⊥) → y h ≡ x h) → Row r n (set row b v) y
row-set {r} {n} {row} {x} y b v w here there =
    record { wide = omega (arith, length-set row b v, w.wide); at = λ h rh hn. go h rh hn (ℕ_discrete h b) }
  where
    go : (h : ℕ) → r < h → h < n → Dec (h ≡ b) → get_or (set row b v) h 0 ≡ word (fit (y h))
    go h rh hn (yes e) =
        let k : b < length row = omega (arith, w.wide) in
        ap (λ (j : ℕ). get_or (set row b v) j 0) e ∙ get_or-set_same row b v 0 k ∙ here (omega arith) (omega arith)
        ∙ ap (λ (j : ℕ). word (fit (y j))) (sym e)
    go h rh hn (no ne) = get_or-set_other row b h v 0 ne ∙ w.at h rh hn ∙ ap (λ (t : Total). word (fit t)) (sym (there h rh ne))

pub row_same : {r n : ℕ} {row : List ℕ} {x : ℕ → Total} (y : ℕ → Total) → Row r n row x → ((h : ℕ) → r < h → h < n → y h ≡ x h)
    → Row r n row y
row_same y w e = record { wide = w.wide; at = λ h rh hn. w.at h rh hn ∙ ap (λ (t : Total). word (fit t)) (sym (e h rh hn)) }

-- ---- the marks

-- a row of none needs no mark
pub marked-none : {r n : ℕ} {touched ups downs : List ℕ} → n ≤ block * length touched → Row r n ups (λ h. none) → Row r n downs (λ h. none)
    → Marked r n touched ups downs
marked-none l u d = record { wide = l; ups-none = λ h rh hn z. u.at h rh hn; downs-none = λ h rh hn z. d.at h rh hn }

-- the entries of b written, and its block marked
pub marked-set : {r n b : ℕ} {touched ups downs touched' ups' downs' : List ℕ} → b < block * length touched
    → touched' ≡ set touched (b / block) 1
    → ((h : ℕ) → (h ≡ b → ⊥) → get_or ups' h 0 ≡ get_or ups h 0) → ((h : ℕ) → (h ≡ b → ⊥) → get_or downs' h 0 ≡ get_or downs h 0)
    → Marked r n touched ups downs
    → Marked r n touched' ups' downs'
marked-set {b} {touched} {touched'} lb et eu ed m = record {
  wide = omega (arith, ap length et, length-set touched (b / block) 1, m.wide);
  ups-none = λ h rh hn z. let q = apart h z in eu h q.0 ∙ m.ups-none h rh hn q.1;
  downs-none = λ h rh hn z. let q = apart h z in ed h q.0 ∙ m.downs-none h rh hn q.1;
}
  where
    go : (h : ℕ) → get_or touched' (h / block) 0 ≡ 0 → Dec (h / block ≡ b / block) → (h ≡ b → ⊥) × (get_or touched (h / block) 0 ≡ 0)
    go h z (yes e) =
        let l : b / block < length touched = omega arith in
        let q : get_or touched' (h / block) 0 ≡ 1 = ap (λ (x : List ℕ). get_or x (h / block) 0) et
        ∙ ap (λ (j : ℕ). get_or (set touched (b / block) 1) j 0) e ∙ get_or-set_same touched (b / block) 1 0 l in
        absurd (omega (arith, z, q))
    go h z (no ne) = (
      λ e. ne (ap (λ (j : ℕ). j / block) e),
      sym (get_or-set_other touched (b / block) (h / block) 1 0 ne) ∙ sym (ap (λ (x : List ℕ). get_or x (h / block) 0) et) ∙ z,
    )

    apart : (h : ℕ) → get_or touched' (h / block) 0 ≡ 0 → (h ≡ b → ⊥) × (get_or touched (h / block) 0 ≡ 0)
    apart h z = go h z (ℕ_discrete (h / block) (b / block))
