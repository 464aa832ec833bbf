-- The machine that takes all figures runs each part by itself.
use Rattle.std.proofs.Common.{◌≡◌, ℕ, ◌+◌, ◌-◌, ◌^◌, ◌<◌, min, List, [], ◌∷◌, length, refl, ap, ◌∙◌, arith}
use Rattle.text.specs.Held.{run}
use Rattle.text.specs.Trimming.{trim_step}
use Rattle.text.specs.declared.marks.State.{State}
use Rattle.text.specs.declared.marks.State.TheVariants.{Plain, AfterStop, AfterComma}
use Rattle.text.specs.declared.marks.Marks.{Marks}
use Rattle.text.specs.Marks.{hits, after, mark_step}
use Rattle.text.proofs.Matching.{counts}
use Rattle.dom.specs.declared.pass.Passes.{Passes}
use Rattle.dom.specs.Passes.{pass_of, passes_of, passes_step}
use Rattle.dom.proofs.Joins.{same-pass, same-passes}
use Rattle.dom.specs.declared.scan.Scan.{Scan}
use Rattle.dom.specs.Scan.{scan_step}

pub run-trim : (cs : List ℕ) (s : Scan) → (run scan_step s cs).trim ≡ run trim_step s.trim cs
run-trim [] s = refl
run-trim (c ∷ cs) s = run-trim cs (scan_step s c)

pub run-marks : (cs : List ℕ) (s : Scan) → (run scan_step s cs).marks ≡ run passes_step s.marks cs
run-marks [] s = refl
run-marks (c ∷ cs) s = run-marks cs (scan_step s c)

pub run-chars : (cs : List ℕ) (s : Scan) → s.chars + length cs < 2 ^ 64 → (run scan_step s cs).chars ≡ s.chars + length cs
run-chars [] s h = omega arith
run-chars (c ∷ cs) s h =
    let e : min (s.chars + 1) (2 ^ 64 - 1) ≡ s.chars + 1 = omega arith in
    omega (arith, run-chars cs (scan_step s c) (omega (arith, e)), e)

run-plain : (cs : List ℕ) (p : Passes) → (run passes_step p cs).plain ≡ run mark_step p.plain cs
run-plain [] p = refl
run-plain (c ∷ cs) p = run-plain cs (passes_step p c)

run-stop : (cs : List ℕ) (p : Passes) → (run passes_step p cs).stop ≡ run mark_step p.stop cs
run-stop [] p = refl
run-stop (c ∷ cs) p = run-stop cs (passes_step p c)

run-comma : (cs : List ℕ) (p : Passes) → (run passes_step p cs).comma ≡ run mark_step p.comma cs
run-comma [] p = refl
run-comma (c ∷ cs) p = run-comma cs (passes_step p c)

passed : (m : Marks) (s : State) (cs : List ℕ) → m.state ≡ s → m.count ≡ 0 → length cs < 2 ^ 64 → run mark_step m cs ≡ pass_of s cs
passed m s cs e z l =
    let law = counts m in
    same-pass _ _ (law.stands cs ∙ ap (λ s. after s cs) e) (law.counts z cs l ∙ ap (λ s. hits s cs) e)

-- what a text leaves that is counted from the start
pub all-passed : (cs : List ℕ) → length cs < 2 ^ 64 → run passes_step (passes_of []) cs ≡ passes_of cs
all-passed cs l = same-passes _ _ (run-plain cs (passes_of []) ∙ passed _ Plain cs refl refl l) (run-stop cs (passes_of []) ∙ passed _ AfterStop cs refl refl l) (run-comma cs (passes_of []) ∙ passed _ AfterComma cs refl refl l)
