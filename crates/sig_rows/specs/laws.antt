pub mod SoundRows
