pub mod EffectLaws
pub mod TaskLaws
pub mod SilentLaws
pub mod NestSteps
