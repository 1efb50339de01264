pub mod GeneralRuns
pub mod GeneralSites
pub mod KernelRuns
pub mod UpgradedRuns
