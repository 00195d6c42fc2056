pub mod AlarmNames
