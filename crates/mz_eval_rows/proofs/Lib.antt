pub mod AssertedLaws
pub mod HandedLaws
pub mod NodeLaws
pub mod ReshapedLaws
pub mod SettledLaws
pub mod JoinedLaws
