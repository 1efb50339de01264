-- Texts without a fault: they declare a system, give its application, and their events are those of the application.
use Rattle.std.specs.Prelude.{◌≡◌, None}
use Rattle.osek_standard.specs.declared.app.App.{App}
use Rattle.osek_vectors.specs.declared.generated.Generated.{Generated}
use Rattle.oil_system.specs.declared.system.System.{System}
use Rattle.front_end.specs.Texts.{DeclaresSystem, GivesApp}
use Rattle.trace_text.specs.EventText.{read_text}

pub record TextsHaveNoFault (texts : Generated) : Type 0 where
  pub system : System
  pub declares : DeclaresSystem texts.oil system
  pub app : App
  pub gives : GivesApp system texts.code app
  pub faultless : (read_text app texts.events).fault ≡ None
