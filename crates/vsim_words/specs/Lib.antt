pub mod Command
pub mod Given
pub mod Settings
pub mod Views
pub mod SettingsLaws
