mod ValidOptions
