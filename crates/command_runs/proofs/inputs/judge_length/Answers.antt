-- the text has no byte at its limit, has one, or isn't there
use Rattle.std.proofs.{Common.{◌≡◌, ◌≢◌, ◌<◌, ◌≤◌, ◌⊎◌, ℕ, List, length, drop, sym, subst, inl, inr, arith}, lemmas.List.{length-drop}}
use Rattle.osek_io.specs.Counts.{Rose, RoseSomewhere}
use Rattle.command_runs.specs.{Inputs.{unread, faulty, limit_of, NotLoaded}, Outside.{told}}
use Rattle.command_runs.proofs.InputFiles.{of_told, of_longer}
use Rattle.command_runs.proofs.inputs.judge_length.Goals as goal

-- a read that failed at a place failed somewhere
somewhere : {Missing : Type 0} (before after : ℕ → ℕ) (at : ℕ) → Rose (before at) (after at) ⊎ Missing → RoseSomewhere before after ⊎ Missing
somewhere before after at (inl rose) = inl (at, rose)
somewhere before after at (inr missing) = inr missing

-- a byte stands at the limit
over_by : (most : ℕ) (bytes : List ℕ) (n : ℕ) → n ≤ length (drop most bytes) → n ≢ 0 → most < length bytes
over_by most bytes n within some = omega (arith, within, some, length-drop most bytes)

pub returns-in-Ok-eq0-clause-within : goal.returns-in-Ok-eq0-clause-within
returns-in-Ok-eq0-clause-within g c =
    let most = limit_of c.args.input in
    let at : c.limit_of.result ≡ most = c.limit_of.ensures in
    of_told _ _ (λ (t : List ℕ). length t ≤ most) (omega arith)
    (λ bytes holds. subst (λ (n : ℕ). length bytes ≤ n) at ((c.in-Ok-eq0.ensures.piece bytes holds).some (omega arith) c.in-Ok-eq0.field-0-test))
    (λ missing. let e = c.in-Ok-eq0.ensures.missing missing in absurd (cc e))

pub returns-in-Ok-clause-stop : goal.returns-in-Ok-clause-stop
returns-in-Ok-clause-stop g c =
    let most = limit_of c.args.input in
    let at : c.limit_of.result ≡ most = c.limit_of.ensures in
    let some : c.in-Ok.field-0 ≡ 0 → ⊥ = c.in-Ok.field-0-test.1 in
    subst (NotLoaded (told g.F.Shelf c.args.shelf.now) (told g.F.Shelf c.read.new.self) c.args.input c.args.name.now) (sym c.over_limit.ensures)
    (faulty tt (of_longer _ _ most (λ (b : List ℕ). most < length b) (λ b over. over)
    (λ bytes holds. over_by most bytes c.in-Ok.field-0 (subst (λ (n : ℕ). c.in-Ok.field-0 ≤ length (drop n bytes)) at (c.in-Ok.ensures.piece bytes holds).within) some)
    (λ missing. let e = c.in-Ok.ensures.missing missing in absurd (cc e))))

pub returns-in-Err-clause-stop : goal.returns-in-Err-clause-stop
returns-in-Err-clause-stop g c = unread (somewhere _ _ c.limit_of.result c.in-Err.ensures.cause)
