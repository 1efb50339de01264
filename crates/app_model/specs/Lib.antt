pub use Rattle.osek_standard.specs.Apps
pub use Rattle.osek_standard.specs.Services
pub use Rattle.osek_standard.specs.States
pub use Rattle.osek_standard.specs.TaskStates
pub use Rattle.osek_standard.specs.Well
