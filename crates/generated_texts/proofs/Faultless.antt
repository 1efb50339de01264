-- The texts of a seed and a number of tasks have no fault.
use Rattle.std.proofs.Common.{◌≡◌, ℕ, ◌+◌, ◌<◌, ◌≤◌, Bool, List, [], ◌∷◌, length, map, get_or, true, None, Ok, Err, refl, sym, ap, subst, ◌∙◌, arith}
use Rattle.std.specs.Prelude.{Result}
use Rattle.osek_values.specs.declared.{refused.LineFault.{LineFault}, refusal.CodeRule.{CodeRule}}
use Rattle.osek_standard.specs.{declared.{app.App.{App}, objects.{Counter.{Counter}, Isr.{Isr}}}, Apps.{no_isr, no_counter}}
use Rattle.osek_vectors.specs.{declared.generated.Generated.{Generated}, CodeTexts.{code_text}, Draws.{first_state}, EventLines.{event_text}, GeneratedTexts.{generated_texts}}
use Rattle.osek_vectors.specs.OilTexts.{oil_text}
use Rattle.oil_lexer.specs.Text.{AreTokens}
use Rattle.oil_system.specs.declared.system.{CounterObject.{CounterObject}, IsrObject.{IsrObject}, System.{System}}
use Rattle.oil_model.specs.Systems.{counter, isr, system_of}
use Rattle.task_code.specs.declared.tree.Code.{Code}
use Rattle.task_code.proofs.Depths.{has_fit}
use Rattle.block_graph.specs.{Answers.{IsAnswer}, Apps.{isr_with, extent, counters_from, HasApp}, Blocks.{source_size}}
use Rattle.block_graph.proofs.SomeAnswer as graph_law
use Rattle.task_code.specs.declared.tree.BodyKind.TheVariants as body_kind
use Rattle.front_end.specs.Texts.{DeclaresSystem, GivesApp}
use Rattle.trace_text.specs.EventText.{read_text}
use Rattle.front_end.proofs.SomeAnswer.{declared_is_linkable}
use Rattle.generated_texts.specs.Faultless.{TextsHaveNoFault}
use Rattle.generated_texts.proofs.{Rows.{AllFrom}, Lexemes.{Lexeme, spelled, tokens_from, are_right, parted}, OilDrawn.{IsOilText, oil_is}}
use Rattle.generated_texts.proofs.{OilLexemes.{oil_lexemes, oil_right, oil_size}, OilSentence.{line_behind, counter_object, isr_object, oil_objects, oil_tree, oil_has_tree}}
use Rattle.generated_texts.proofs.{OilRules.{counter_only, oil_has_no_fault}, CodeDrawn.{IsCodeText, code_is}, CodeLexemes.{Steps, AreSteps, code_lexemes, code_right, code_size}}
use Rattle.generated_texts.proofs.{CodeSentence.{the_code, code_has_tree}, CodeRules.{code_has_no_fault, isrs_are}, EventDrawn.{events_have_no_fault}, EventTexts.{HasSources}}

tokens_are : (ls : List Lexeme) (bytes : List ℕ) → are_right ls ≡ true → length (spelled ls) ≤ 1048576 → bytes ≡ spelled ls → AreTokens bytes (tokens_from 1 ls)
tokens_are ls bytes right size is = subst (λ (b : List ℕ). AreTokens b (tokens_from 1 ls)) (sym is) (record { within = size; parts = parted ls 1 right })

module _ (nons : List Bool) (few : length nons ≤ 16) (some : 0 < length nons) where
  abbrev s : System
  s = system_of (oil_objects nons)

  oil_declares : (bytes : List ℕ) → bytes ≡ spelled (oil_lexemes nons) → DeclaresSystem bytes s
  oil_declares bytes is = record {
    tokens = tokens_from 1 (oil_lexemes nons);
    tree = oil_tree nons;
    are_tokens = tokens_are (oil_lexemes nons) bytes (oil_right nons few) (oil_size nons few) is;
    has_tree = oil_has_tree nons;
    has_system = record { no_fault = oil_has_no_fault nons few some; is = refl };
  }

  module _ (bodies : List Steps) (task : ℕ) (same : length bodies ≡ length nons) (are : AllFrom (λ _. AreSteps (length nons)) 0 bodies) (among : task < length nons) where
    abbrev code : Code
    code = the_code bodies task

    has_app : (answer : Result App (LineFault CodeRule)) → IsAnswer answer s code → (app : App) × HasApp s code app
    has_app (Ok app) is = (app, is)
    has_app (Err fault) least = absurd (code_has_no_fault nons bodies task few some same are among fault.rule fault.line least.violated)

    the_app : (bytes : List ℕ) → bytes ≡ spelled (oil_lexemes nons) → (app : App) × HasApp s code app
    the_app bytes is =
        let (answer, right) = graph_law.some s code (declared_is_linkable bytes s (oil_declares bytes is)) (has_fit (tokens_from 1 (code_lexemes bodies task)) code (code_has_tree bodies task)) in
        has_app answer right

    gives : (bytes : List ℕ) → bytes ≡ spelled (code_lexemes bodies task) → (app : App) → HasApp s code app → GivesApp s bytes app
    gives bytes is app has = record {
      tokens = tokens_from 1 (code_lexemes bodies task);
      code = code;
      are_tokens = tokens_are (code_lexemes bodies task) bytes (code_right (length nons) bodies task few same are among) (code_size (length nons) bodies task few same are among) is;
      has_code = code_has_tree bodies task;
      has_app = has;
    }

    counters_are : s.counters ≡ counter counter_object ∷ []
    counters_are = ap (map counter) (counter_only nons few some)

    sources : (app : App) → HasApp s code app → HasSources app
    sources app has =
        let isrs : app.isrs ≡ map (λ (x : IsrObject). isr_with x (extent body_kind.Isr x.name code.bodies 0)) (isr (isr_object (line_behind 6 nons + 1)) ∷ []) =
        has.isrs ∙ ap (map (λ (x : IsrObject). isr_with x (extent body_kind.Isr x.name code.bodies 0))) (isrs_are nons bodies task few some same are among) in
        let counters : app.counters ≡ counters_from s (counter counter_object ∷ []) 0 (source_size code.bodies) =
        has.counters ∙ ap (λ (cs : List CounterObject). counters_from s cs 0 (source_size code.bodies)) counters_are in
        record {
          isr = ap (λ (xs : List Isr). (get_or xs 0 no_isr).name) isrs;
          counter = ap (λ (xs : List Counter). (get_or xs 0 no_counter).name) counters;
          some_isr = omega (arith, ap length isrs);
          some_counter = omega (arith, ap length counters);
        }

faultless_by : (n : ℕ) (texts : Generated) (x : ℕ) → 0 < n → n ≤ 16 → IsOilText n texts.oil → IsCodeText n texts.code → texts.events ≡ (event_text n x).text → TextsHaveNoFault texts
faultless_by n texts x positive few oil code events =
    let nons = oil.nons in
    let few' : length nons ≤ 16 = omega (arith, oil.tasks, few) in
    let some : 0 < length nons = omega (arith, oil.tasks, positive) in
    let same : length code.bodies ≡ length nons = omega (arith, oil.tasks, code.tasks) in
    let are : AllFrom (λ _. AreSteps (length nons)) 0 code.bodies = subst (λ (k : ℕ). AllFrom (λ _. AreSteps k) 0 code.bodies) (sym oil.tasks) code.among in
    let among : code.task < length nons = omega (arith, oil.tasks, code.named) in
    let (app, has) = the_app nons few' some code.bodies code.task same are among texts.oil oil.is in
    record {
      system = system_of (oil_objects nons);
      declares = oil_declares nons few' some texts.oil oil.is;
      app = app;
      gives = gives nons few' some code.bodies code.task same are among texts.code code.is app has;
      faultless = subst (λ (t : List ℕ). (read_text app t).fault ≡ None) (sym events) (events_have_no_fault app (sources nons few' some code.bodies code.task same are among app has) n x few);
    }

pub texts_have_no_fault : (seed n : ℕ) → 0 < n → n ≤ 16 → TextsHaveNoFault (generated_texts seed n)
texts_have_no_fault seed n positive few =
    let oil = oil_text n (first_state seed) in
    let code = code_text n oil.state in
    faultless_by n (generated_texts seed n) code.state positive few (oil_is n (first_state seed)) (code_is n oil.state positive) refl
