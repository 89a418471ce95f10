pub mod Base
pub mod Items
pub mod Hub
pub mod Past
pub mod Proper
pub mod Kept
pub mod Replies
