pub mod NameLemmas
pub mod PathLemmas
pub mod FateLemmas
pub mod ChainLemmas
pub mod LogLemmas
pub mod MovingLemmas
mod PlanLemmas
mod EditLemmas
mod ChangeLemmas
mod SeenLemmas
mod RoomLemmas
mod AnswerLemmas
mod FindLemmas
mod ListLemmas
mod PreparedLemmas
mod RefusalLemmas
